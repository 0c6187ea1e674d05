use Rattle.std.proofs.Common.{◌≡◌, ◌++◌, string_bytes}
use Rattle.xml_text.specs.Xml.{render}
use Rattle.xml_text.specs.Each.{each}
use Rattle.run_picture.specs.Pictures.{lane_line}
use Rattle.run_picture.proofs.drawn.add_lanes.Given as goal

-- that of each lane so far
abbrev pub invariant-loop-k : goal.invariant-loop-k
invariant-loop-k l = string_bytes l.out ≡ string_bytes l.initial.out ++ render (each l.k (lane_line l.scene l.bottom))
