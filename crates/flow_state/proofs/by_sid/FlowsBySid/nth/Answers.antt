use Rattle.std.proofs.Common.{◌≤◌, ◌+◌, ◌∷◌, drop, slice_get, sym, ap, ◌∙◌, arith, ℕ, Option}
use Rattle.std.specs.Option.{option_map}
use Rattle.flow_state.specs.declared.flow.Flow.{Flow}
use Rattle.flow_state.specs.StoredFlows.{there}
use Rattle.flow_state.proofs.BySid.{Flows, dropped_none, dropped_some, later}
use Rattle.flow_state.proofs.by_sid.FlowsBySid.nth.Goals as goal
use Rattle.flow_state.proofs.by_sid.FlowsBySid.nth.Goals.{in-Some+else-left-eq0, in_default}

pub returns-then-left-eq0 : goal.returns-then-left-eq0
returns-then-left-eq0 c =
    let one = dropped_some c.self.inside.places.entries c.loop-place.place c.in-Some.flow.now (sym c.in-Some.ensures) in
    sym (ap (λ (o : Option (ℕ × Flow)). option_map (λ e. e.1) o) (c.loop-place.invariant ∙ ap (λ (es : Flows). slice_get es c.loop-place.left) one.1 ∙ ap (slice_get ((one.0, c.in-Some.flow.now) ∷ there (drop (c.loop-place.place + 1) c.self.inside.places.entries))) c.if-left-eq0.true))

pub loop-place-preserved : goal.loop-place-preserved
loop-place-preserved c = elim c.match-flow_at.branch [
  | in-Some+else-left-eq0 w ↦
      let one = dropped_some c.self.inside.places.entries c.loop-place.place w.in-Some.flow.now (sym w.in-Some.ensures) in
      let some : 1 ≤ c.loop-place.left = omega arith in
      c.loop-place.invariant ∙ ap (λ (es : Flows). slice_get es c.loop-place.left) one.1 ∙ later (one.0, w.in-Some.flow.now) (there (drop (c.loop-place.place + 1) c.self.inside.places.entries)) c.loop-place.left some
      ∙ ap (slice_get (there (drop (c.loop-place.place + 1) c.self.inside.places.entries))) (sym w.left-is)
  | in_default w ↦
      c.loop-place.invariant ∙ ap (λ (es : Flows). slice_get es c.loop-place.left) (dropped_none c.self.inside.places.entries c.loop-place.place (sym w.in_default.ensures))
      ∙ ap (slice_get (there (drop (c.loop-place.place + 1) c.self.inside.places.entries))) (sym w.left-is)
]
