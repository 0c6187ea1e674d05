use Rattle.std.proofs.Common.{◌≡◌, ◌≤◌, ◌↔◌, drop, map}
use Rattle.command_log.specs.Spelling.{spelling}
use Rattle.script_counts.specs.Counts.{read_off, value_of, OffersAll}
use Rattle.script_counts.proofs.counts.offers_all.Given as goal

abbrev pub invariant-loop-i : goal.invariant-loop-i
invariant-loop-i l =
    (OffersAll l.commands l.events l.answers ↔ (read_off value_of (drop l.i l.events) (drop l.i l.answers) ≡ map spelling (drop l.count l.commands)))
    × (l.count ≤ l.i)
