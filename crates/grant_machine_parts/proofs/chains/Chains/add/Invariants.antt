use Rattle.std.proofs.Common.{◌≡◌, ◌++◌, ◌-◌, ℕ, drop, length}
use Rattle.grant_machine_parts.specs.Ranks.{of_priority}
use Rattle.grant_machine_parts.specs.Chains.{Leads}
use Rattle.grant_machine_parts.proofs.chains.Chains.add.Given as goal

-- those from a place on are to come, and the number leads to them
abbrev pub invariant-loop-number : goal.invariant-loop-number
invariant-loop-number l =
    (place : ℕ) × (l.ordered.items ++ of_priority (drop place l.ranked) l.priority ≡ l.initial.ordered.items ++ of_priority l.ranked l.priority) × Leads l.ranked l.priority place l.number

abbrev pub decreases-loop-number : goal.decreases-loop-number
decreases-loop-number l = length (l.initial.ordered.items ++ of_priority l.ranked l.priority) - length l.ordered.items
