use Rattle.std.proofs.Common.{◌≤◌, length}
use Rattle.command_log.specs.Values.{values_from}
use Rattle.upsched_c_node.proofs.plain_node.gapless_len.Given as goal

abbrev pub invariant-loop-len : goal.invariant-loop-len
invariant-loop-len l = l.len ≤ length (values_from 1 l.node.parts.knowledge.tally.learned)
