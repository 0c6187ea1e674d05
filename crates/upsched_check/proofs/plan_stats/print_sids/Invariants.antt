use Rattle.std.proofs.Common.{◌≡◌, ℕ, List, ◌++◌}
use Rattle.std.specs.List.{flat_map}
use Rattle.std.specs.Io.KnownBytes.{Appends}
use Rattle.upsched_check.specs.Stats.{sid_line}
use Rattle.upsched_check.proofs.plan_stats.print_sids.Given as goal

abbrev pub invariant-loop-key : goal.invariant-loop-key
invariant-loop-key g l = (printed : List ℕ)
    × Appends (g.O.Write.contents l.initial.output) (g.O.Write.contents l.output) printed
    × (printed ++ flat_map sid_line l.key-iterator ≡ flat_map sid_line l.sids.entries)
