use Rattle.std.proofs.Common.{◌∙◌, List, ◌∷◌, [], sym, subst, arith, refl}
use Rattle.ballots.specs.Members.{member_count}
use Rattle.node_worker.specs.PlantView.{PlantView}
use Rattle.node_worker.specs.Legal.{IsSound, MayRecord, outputs_of}
use Rattle.node_worker.specs.Runs.{HaveListened, Listened}
use Rattle.node_worker.specs.declared.entry.Done.{Done}
use Rattle.node_worker.proofs.Plants.{record_legal}
use Rattle.node_worker.specs.Places.{IsPlaceOf}
use Rattle.node_worker.proofs.Listening.{listened_more, place_more}
use Rattle.node_worker.proofs.Comparisons.{plant_of, may_record, not_apart}
use Rattle.node_worker.proofs.plant.Plant.record.Goals as goal

abbrev was : (g : _) (c : goal.After-push_reserved g) → PlantView
was g c = plant_of (member_count c.self.inside.members) c.self.inside.room c.self.inside.records.items c.self.inside.modems.items

may : (g : _) (c : goal.After-push_reserved g) → MayRecord (was g c) c.args.kept.now c.args.done
may g c =
    may_record (member_count c.self.inside.members) c.self.inside.room c.len.result c.id.result c.count-else-number-count.result c.self.inside.modems.items c.self.inside.records.items c.as_slice.result.now
    c.as_slice-else-not-is_next.result.now c.entries.result.now c.args.kept.now c.args.done
    c.if-len-self.false (c.len.ensures ∙ c.self.inside.records.ok.0) (not_apart _ _ c.if-ne.ensures) c.id.ensures (omega (arith, c.number.ensures.same, c.count.ensures, c.if-number-count.false)) (c.if-count.false ∙ c.count-else-number-count-2.ensures) (c.count-else-number-count.ensures ∙ c.members.ensures)
    c.as_slice.ensures.value c.as_slice-else-not-is_next.ensures.value c.entries.ensures.entries
    (c.if-not-is_next.ensures.0 refl) (c.if-not-has_come.ensures.0 refl)

-- where the search alone was done
pub invariant_of-self : goal.invariant_of-self
invariant_of-self g c = (c.self.invariant.0, c.self.invariant.1, c.self.invariant.2, c.self.invariant.3)

pub invariant_of-self-2 : goal.invariant_of-self-2
invariant_of-self-2 g c =
    let P : List Done → Type 0 = λ ds. IsSound (member_count c.self.inside.members) ds in
    let heard : Listened (outputs_of c.self.inside.records.items) c.self.inside.modems.items = c.self.invariant.2 in
    let Q : List Done → Type 0 = λ ds. HaveListened heard.0 (outputs_of ds) c.self.inside.modems.items heard.1 in (
      omega arith,
      (λ trusted. subst P (sym c.push_reserved.ensures.items)
          (record_legal (was g c) c.args.kept.now c.args.done (c.self.invariant.1 trusted) c.entries.ensures.replay (c.entries.ensures.trusted trusted) (may g c))),
      (heard.0, heard.1, subst Q (sym c.push_reserved.ensures.items) (listened_more heard.0 c.self.inside.records.items (c.args.done ∷ []) c.self.inside.modems.items heard.1 heard.2)),
      subst (λ (ds : List Done). IsPlaceOf ds c.self.inside.last_output.record c.self.inside.last_output.before) (sym c.push_reserved.ensures.items)
          (place_more c.self.inside.records.items (c.args.done ∷ []) c.self.inside.last_output.record c.self.inside.last_output.before c.self.invariant.3),
    )

pub returns-clause-may : goal.returns-clause-may
returns-clause-may g c =
    let P : PlantView → Type 0 = λ p. MayRecord p c.args.kept.now c.args.done in
    (λ yes. subst P c.self.view_is (may g c), λ may. refl)
