use Rattle.std.proofs.Common.{take}
use Rattle.std.specs.Io.KnownBytes.{Appends}
use Rattle.host_service.specs.Texts.{numbered_letters}
use Rattle.host_service.proofs.texts.write_numbered.Given as goal

abbrev pub invariant-loop-letter : goal.invariant-loop-letter
invariant-loop-letter g l = Appends (g.W.Write.contents l.initial.output) (g.W.Write.contents l.output) (numbered_letters l.number (take l.letter-index l.letters))
