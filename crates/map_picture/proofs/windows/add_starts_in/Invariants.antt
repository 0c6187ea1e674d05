use Rattle.std.proofs.Common.{◌≡◌, ◌++◌, take}
use Rattle.std.specs.List.{flat_map}
use Rattle.map_picture.specs.Windows.{start_of}
use Rattle.map_picture.proofs.windows.add_starts_in.Given as goal

-- those so far
abbrev pub invariant-loop-interval : goal.invariant-loop-interval
invariant-loop-interval l = l.found.items ≡ l.initial.found.items ++ flat_map (start_of l.row l.start) (take l.interval-index l.intervals)
