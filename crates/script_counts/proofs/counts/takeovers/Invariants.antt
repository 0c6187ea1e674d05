use Rattle.std.proofs.Common.{◌≡◌, ◌+◌, ◌≤◌, ◌++◌, drop, option_to_list}
use Rattle.script_counts.specs.Counts.{read_off, leader_of, changes, takeovers}
use Rattle.script_counts.proofs.counts.takeovers.Given as goal

abbrev pub invariant-loop-i : goal.invariant-loop-i
invariant-loop-i l =
    (l.count + changes (option_to_list l.last ++ read_off leader_of (drop l.i l.events) (drop l.i l.answers)) ≡ takeovers l.events l.answers) × (l.count ≤ l.i)
