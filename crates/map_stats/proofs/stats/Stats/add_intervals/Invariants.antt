use Rattle.std.proofs.Common.{◌≡◌, take}
use Rattle.plan_account.specs.FlowsHeld.{since_in}
use Rattle.map_stats.specs.Held.{AddsIntervals}
use Rattle.map_stats.proofs.stats.Stats.add_intervals.Given as goal

abbrev pub invariant-loop-interval : goal.invariant-loop-interval
invariant-loop-interval l = (l.self.maps ≡ l.initial.self.maps) × AddsIntervals (since_in l.flows) l.channel (take l.interval-index l.found) l.initial.self l.self
