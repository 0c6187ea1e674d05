use Rattle.std.proofs.Common.{take}
use Rattle.std.specs.Io.KnownBytes.{Appends}
use Rattle.upsched_maps.specs.Lines.{element_lines}
use Rattle.upsched_maps.proofs.body_show.print_elements.Given as goal

abbrev pub invariant-loop-element : goal.invariant-loop-element
invariant-loop-element g l =
    Appends (g.O.Write.contents l.initial.output) (g.O.Write.contents l.output) (element_lines (take l.element-index l.elements))
