use Rattle.std.proofs.Common.{take}
use Rattle.std.specs.Io.KnownBytes.{Appends}
use Rattle.host_service.specs.Texts.{output_lines}
use Rattle.host_service.proofs.texts.write_outputs.Given as goal

abbrev pub invariant-loop-one : goal.invariant-loop-one
invariant-loop-one g l = Appends (g.W.Write.contents l.initial.output) (g.W.Write.contents l.output) (output_lines (take l.one-index l.outputs))
