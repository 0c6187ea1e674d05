use Rattle.std.proofs.Common.{◌≡◌, ◌++◌, string_bytes}
use Rattle.xml_text.specs.Xml.{render}
use Rattle.xml_text.specs.Each.{each}
use Rattle.map_picture.specs.Owners.{grants_at}
use Rattle.map_picture.proofs.owners.add_grants.Given as goal

-- each so far
abbrev pub invariant-loop-i : goal.invariant-loop-i
invariant-loop-i l = string_bytes l.out ≡ string_bytes l.initial.out ++ render (each l.i (grants_at l.deeds l.owner))
