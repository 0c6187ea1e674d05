use Rattle.std.proofs.Common.{◌≡◌, ◌∷◌, [], take}
use Rattle.std.specs.List.{flat_map}
use Rattle.grant_machine_parts.specs.Ranks.{of_priority}
use Rattle.grant_machine_parts.proofs.chains.by_priority.Given as goal

abbrev pub invariant-loop-priority : goal.invariant-loop-priority
invariant-loop-priority l = l.ordered.items ≡ flat_map (of_priority l.ranked) (take l.priority-index (7 ∷ 6 ∷ 5 ∷ 4 ∷ 3 ∷ 2 ∷ 1 ∷ 0 ∷ []))
