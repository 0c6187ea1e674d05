use Rattle.std.proofs.Common.{◌≡◌, ℕ, List, ◌++◌}
use Rattle.std.specs.List.{flat_map}
use Rattle.std.specs.Io.KnownBytes.{Appends}
use Rattle.upsched_check.specs.Stats.{use_line}
use Rattle.upsched_check.proofs.plan_stats.print_uses.Given as goal

abbrev pub invariant-loop-key : goal.invariant-loop-key
invariant-loop-key g l = (printed : List ℕ)
    × Appends (g.O.Write.contents l.initial.output) (g.O.Write.contents l.output) printed
    × (printed ++ flat_map (use_line l.maps.entries) l.key-iterator ≡ flat_map (use_line l.maps.entries) l.uses.entries)
