use Rattle.std.proofs.Common.{◌+◌, drop}
use Rattle.upsched_run.specs.RunLines.{letter_lines}
use Rattle.upsched_run.proofs.Told.{IsPartOf}
use Rattle.upsched_run.proofs.trace.print_letters.Given as goal

abbrev pub invariant-loop-index : goal.invariant-loop-index
invariant-loop-index g l =
    IsPartOf (letter_lines l.style.named l.style.word.now l.listed.first l.listed.letters.now) (letter_lines l.style.named l.style.word.now (l.listed.first + l.index) (drop l.index l.listed.letters.now))
    (g.O.Write.contents l.initial.output) (g.O.Write.contents l.output)
