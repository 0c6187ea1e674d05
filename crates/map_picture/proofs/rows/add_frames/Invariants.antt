use Rattle.std.proofs.Common.{◌≡◌, ◌++◌, string_bytes}
use Rattle.xml_text.specs.Xml.{render}
use Rattle.xml_text.specs.Each.{each}
use Rattle.map_picture.specs.Pictures.{frame_at}
use Rattle.map_picture.proofs.rows.add_frames.Given as goal

-- each so far
abbrev pub invariant-loop-k : goal.invariant-loop-k
invariant-loop-k l = string_bytes l.out ≡ string_bytes l.initial.out ++ render (each l.k (frame_at l.channel l.down.0 l.down.1))
