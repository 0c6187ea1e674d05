use Rattle.std.proofs.Common.{take}
use Rattle.std.specs.List.{flat_map}
use Rattle.plan_account.specs.Happenings.{given_by}
use Rattle.plan_account.specs.FlowsHeld.{Grows}
use Rattle.plan_account.proofs.flows.Flows.add_intervals.Given as goal

abbrev pub invariant-loop-interval : goal.invariant-loop-interval
invariant-loop-interval l = Grows (flat_map (given_by l.ch l.start) (take l.interval-index l.found)) l.initial.self l.self
