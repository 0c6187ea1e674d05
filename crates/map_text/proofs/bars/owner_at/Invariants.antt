use Rattle.std.proofs.Common.{◌≡◌, drop}
use Rattle.map_text.specs.Bars.{owner_at}
use Rattle.map_text.proofs.bars.owner_at.Given as goal

abbrev pub invariant-loop-interval : goal.invariant-loop-interval
invariant-loop-interval l = owner_at (drop l.interval-index l.intervals) l.x ≡ owner_at l.intervals l.x
