use Rattle.std.proofs.Common.{take}
use Rattle.std.specs.Io.KnownBytes.{Appends}
use Rattle.node_service.specs.Texts.{place_lines}
use Rattle.node_service.proofs.outgoing.write_places.Given as goal

abbrev pub invariant-loop-one : goal.invariant-loop-one
invariant-loop-one g l = Appends (g.W.Write.contents l.initial.output) (g.W.Write.contents l.output) (place_lines (take l.one-index l.outputs))
