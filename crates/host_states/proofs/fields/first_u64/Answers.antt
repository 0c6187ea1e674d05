use Rattle.std.proofs.Common.{arith}
use Rattle.host_states.proofs.Framing.{front_fits, front_read, number_read}
use Rattle.host_states.proofs.fields.first_u64.Goals as goal

pub returns : goal.returns
returns c = number_read c.args.bytes.now c.read_u64.result c.requires (front_fits c.args.bytes.now (λ i. omega (arith, c.type_inv.bytes i)))
    (front_read c.args.bytes.now c.read_u64.result (omega (arith, c.read_u64.ensures)))
