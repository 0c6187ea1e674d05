use Rattle.std.proofs.Common.{◌≡◌, ◌++◌, string_bytes}
use Rattle.xml_text.specs.Xml.{render}
use Rattle.xml_text.specs.Each.{each}
use Rattle.run_picture.specs.Pictures.{chosen_at}
use Rattle.run_picture.proofs.drawn.add_choices.Given as goal

-- that of each letter so far
abbrev pub invariant-loop-l : goal.invariant-loop-l
invariant-loop-l l = string_bytes l.out ≡ string_bytes l.initial.out ++ render (each l.l (chosen_at l.scene))
