use Rattle.std.proofs.Common.{◌≡◌, ◌++◌, take}
use Rattle.grant_machine_parts.specs.Ranks.{of_priority}
use Rattle.grant_machine_parts.proofs.chains.add_of_all.Given as goal

abbrev pub invariant-loop-one : goal.invariant-loop-one
invariant-loop-one l = l.ordered.items ≡ l.initial.ordered.items ++ of_priority (take l.one-index l.ranked) l.priority
