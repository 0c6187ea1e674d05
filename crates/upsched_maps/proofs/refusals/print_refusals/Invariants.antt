use Rattle.std.proofs.Common.{◌≡◌, take}
use Rattle.std.specs.Io.KnownBytes.{Appends}
use Rattle.grant_machine.specs.Runs.{rows_after}
use Rattle.upsched_maps.specs.Refusals.{refusal_lines}
use Rattle.upsched_maps.proofs.refusals.print_refusals.Given as goal

abbrev pub invariant-loop-i : goal.invariant-loop-i
invariant-loop-i g l =
    (l.machine ≡ rows_after (take l.i l.commands))
    × Appends (g.O.Write.contents l.initial.output) (g.O.Write.contents l.output) (refusal_lines l.path (take l.i l.commands))
