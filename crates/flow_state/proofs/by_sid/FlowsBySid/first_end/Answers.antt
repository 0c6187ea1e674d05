use Rattle.std.proofs.Common.{sym, subst, take, arith, ◌+◌}
use Rattle.flow_state.specs.StoredTable.{EndFrom}
use Rattle.flow_state.specs.StoredFlows.{there}
use Rattle.flow_state.proofs.BySid.{ends_some, ends_none}
use Rattle.flow_state.proofs.by_sid.FlowsBySid.first_end.Goals as goal
use Rattle.flow_state.proofs.by_sid.FlowsBySid.first_end.Goals.{in-Some, in_default}

pub loop-place-preserved : goal.loop-place-preserved
loop-place-preserved c = elim c.match-flow_at.branch [
  | in-Some w ↦
      let least = w.min-first.ensures in
      let is = w.first-is in
      ends_some c.self.inside.places.entries c.loop-place.place c.loop-place.first c.match-flow_at.first w.in-Some.flow.now (sym w.in-Some.ensures) (grind (arith, least, is)) (grind (arith, least, is)) c.loop-place.invariant
  | in_default w ↦
      subst (λ n. EndFrom n (there (take (c.loop-place.place + 1) c.self.inside.places.entries))) (sym w.first-is)
      (ends_none c.self.inside.places.entries c.loop-place.place c.loop-place.first (sym w.in_default.ensures) c.loop-place.invariant)
]
