use Rattle.row_bytes.specs.Tables.{whole_in}
use Rattle.row_bytes.proofs.Taken.{whole_first}
use Rattle.row_bytes.proofs.reading.take_table.Goals as goal

pub returns-clause-fault : goal.returns-clause-fault
returns-clause-fault c = whole_first c.args.rest.now.now (whole_in c.in_ok-table.table, c.take_whole.new.rest.now) c.in_ok-table.ensures
