use Rattle.std.proofs.Common.{rules}
use Rattle.stored_hosts.proofs.Named.{no_number, no_zero}
use Rattle.stored_hosts.proofs.names.read_kind.Goals as goal

pub returns-in_default-number_in : goal.returns-in_default-number_in
returns-in_default-number_in c = no_number c.args.name.now c.in-Some.digits.now c.args.kind (search rules) c.in_default-number_in.ensures

pub returns-then-epoch-eq0 : goal.returns-then-epoch-eq0
returns-then-epoch-eq0 c = no_zero c.args.name.now c.in-Some.digits.now c.args.kind c.in-Some-number_in.epoch (search rules) (search rules) (search rules) (search rules)
