use Rattle.std.proofs.Common.{◌≡◌, take}
use Rattle.map_picture.specs.Windows.{starts}
use Rattle.map_picture.proofs.windows.starts.Given as goal

-- those so far
abbrev pub invariant-loop-deed : goal.invariant-loop-deed
invariant-loop-deed l = l.found.items ≡ starts l.ch l.row (take l.deed-index l.deeds)
