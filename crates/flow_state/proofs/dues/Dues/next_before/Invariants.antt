use Rattle.std.proofs.Common.{◌*◌}
use Rattle.flow_state.specs.StoredDues.{NoneDue}
use Rattle.flow_state.proofs.dues.Dues.next_before.Given as goal

abbrev pub invariant-loop-block : goal.invariant-loop-block
invariant-loop-block l = NoneDue l.self l.from (64 * l.block) l.end
