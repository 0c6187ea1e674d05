use Rattle.std.proofs.Common.{◌≡◌, ◌++◌, string_bytes}
use Rattle.xml_text.specs.Xml.{render}
use Rattle.xml_text.specs.Each.{each}
use Rattle.map_picture.specs.Windows.{counted, window_at}
use Rattle.map_picture.proofs.windows.add_windows_from.Given as goal

-- each so far
abbrev pub invariant-loop-i : goal.invariant-loop-i
invariant-loop-i l = string_bytes l.out ≡ string_bytes l.initial.out ++ render (each l.i (window_at l.owner (counted l.dues) l.found l.first))
