use Rattle.std.proofs.Common.{◌≡◌, ◌++◌, string_bytes}
use Rattle.xml_text.specs.Xml.{render}
use Rattle.xml_text.specs.Each.{each}
use Rattle.run_picture.specs.Pictures.{node_bands}
use Rattle.run_picture.proofs.drawn.add_all_bands.Given as goal

-- those of each node so far
abbrev pub invariant-loop-k : goal.invariant-loop-k
invariant-loop-k l = string_bytes l.out ≡ string_bytes l.initial.out ++ render (each l.k (node_bands l.scene l.bottom))
