use Rattle.std.proofs.Common.{arith}
use Rattle.row_bytes.proofs.Taken.{answer_is, answer_spells}
use Rattle.row_bytes.proofs.reading.read_rows.Goals as goal

pub returns-clause-read : goal.returns-clause-read
returns-clause-read c = answer_spells c.rows_in.result c.args.bytes.now (λ i. omega (arith, c.type_inv.bytes i)) c.rows_in.ensures.ok

pub returns-clause-spelled : goal.returns-clause-spelled
returns-clause-spelled c = answer_is c.rows_in.result c.args.bytes.now c.rows_in.ensures.ok c.rows_in.ensures.fault
