use Rattle.std.proofs.Common.{◌≡◌, ◌++◌, string_bytes}
use Rattle.xml_text.specs.Xml.{render}
use Rattle.xml_text.specs.Each.{each}
use Rattle.run_picture.specs.Parts.{part_at}
use Rattle.run_picture.proofs.parts.add_part.Given as goal

-- that of each event so far
abbrev pub invariant-loop-i : goal.invariant-loop-i
invariant-loop-i l = string_bytes l.out ≡ string_bytes l.initial.out ++ render (each l.i (part_at l.scene l.part))
