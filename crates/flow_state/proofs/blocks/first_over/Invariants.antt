use Rattle.std.proofs.Common.{◌*◌}
use Rattle.flow_state.proofs.Bounds.{NoneBelow}
use Rattle.flow_state.proofs.blocks.first_over.Given as goal

abbrev pub invariant-loop-block : goal.invariant-loop-block
invariant-loop-block l = NoneBelow l.latest (128 * l.block) l.start
