use Rattle.std.proofs.Common.{◌∷◌, ◌++◌, [], List, Vec, Global, ap, sym, ◌∙◌, arith}
use Rattle.std.proofs.lemmas.List.{take_all}
use Rattle.flow_state.specs.declared.flow.Flow.{Flow}
use Rattle.flow_state.specs.StoredFlows.{Places, BySid, there}
use Rattle.flow_state.proofs.Filling.{values, copied_some, copied_none}
use Rattle.flow_state.proofs.by_sid.FlowsBySid.copy_all.Goals as goal
use Rattle.flow_state.proofs.by_sid.FlowsBySid.copy_all.Goals.{in-Some+in_ok-push, in_default}

pub loop-place-init : goal.loop-place-init
loop-place-init c = c.clear.ensures.items

pub loop-place-preserved : goal.loop-place-preserved
loop-place-preserved c = elim c.match-flow_at.branch [
  | in-Some+in_ok-push w ↦
      ap (λ (v : Vec Flow Global). v.items) w.copied-is
      ∙ w.in_ok-push.ensures.items
      ∙ ap (λ (fs : List Flow). fs ++ w.in-Some.flow.now ∷ []) c.loop-place.invariant
      ∙ sym (copied_some c.self.inside.places.entries c.loop-place.place w.in-Some.flow.now (sym w.in-Some.ensures))
  | in_default w ↦
      ap (λ (v : Vec Flow Global). v.items) w.copied-is
      ∙ c.loop-place.invariant
      ∙ sym (copied_none c.self.inside.places.entries c.loop-place.place (sym w.in_default.ensures))
]

pub returns : goal.returns
returns c =
    let len = c.len-place-end.ensures.len in
    c.loop-place.invariant
    ∙ ap (λ (ps : Places). values (there ps)) (take_all c.loop-place.place c.self.inside.places.entries (omega (arith, len)))
    ∙ ap (λ (m : BySid). values m.entries) c.self.view_is
