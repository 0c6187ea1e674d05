use Rattle.std.proofs.Common.{take}
use Rattle.std.specs.Io.KnownBytes.{Appends}
use Rattle.upsched_check.specs.Named.{named_lines}
use Rattle.upsched_check.proofs.named_body.print_elements.Given as goal

abbrev pub invariant-loop-element : goal.invariant-loop-element
invariant-loop-element g l =
    Appends (g.O.Write.contents l.initial.output) (g.O.Write.contents l.output) (named_lines (take l.element-index l.elements))
