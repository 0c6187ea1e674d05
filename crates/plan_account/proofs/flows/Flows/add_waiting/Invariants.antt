use Rattle.std.proofs.Common.{take}
use Rattle.std.specs.List.{flat_map}
use Rattle.plan_account.specs.Happenings.{waits_by}
use Rattle.plan_account.specs.FlowsHeld.{Grows}
use Rattle.plan_account.proofs.flows.Flows.add_waiting.Given as goal

abbrev pub invariant-loop-element : goal.invariant-loop-element
invariant-loop-element l = Grows (flat_map (waits_by l.ch) (take l.element-index l.found)) l.initial.self l.self
