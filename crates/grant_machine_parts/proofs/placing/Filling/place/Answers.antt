use Rattle.std.proofs.Common.{◌≡◌, ◌+◌, ◌<◌, ◌++◌, ◌∷◌, [], true, false, List, length, refl, sym, ap, subst, ◌∙◌, arith}
use Rattle.std.specs.Result.{is_ok}
use Rattle.std.proofs.lemmas.List.{length_push}
use Rattle.grant_machine_parts.specs.Placing.{Placement, most_placements, is_free}
use Rattle.grant_machine_parts.specs.Filling.{PartMap}
use Rattle.grant_machine_parts.specs.Gaps.{carved}
use Rattle.grant_machine_parts.specs.Filling.{has_use}
use Rattle.grant_machine_parts.proofs.Carved.{gaps_added, apart_added, all_push}
use Rattle.grant_machine_parts.proofs.placing.Filling.place.Goals as goal
use Rattle.grant_machine_parts.proofs.placing.Filling.place.Goals.{then-self, else-self}

pub invariant_of-self-2 : goal.invariant_of-self-2
invariant_of-self-2 c =
    let few : length c.self.inside.placements.items < most_placements = subst (λ (w : PartMap). length w.placements < most_placements) (sym c.self.view_is) c.requires.room in
    let ps = c.self.inside.placements.items in
    let p = c.args.placement in
    let from : c.get-from.result ≡ p.offset = c.get-from.ensures.same in
    let to : c.get-from.result + p.size ≡ p.offset + p.size = ap (λ n. n + p.size) from in
    let ok : is_ok c.push-put.result ≡ true = sym c.is_ok.ensures.value ∙ c.if-prove.false in
    let put : c.push-put.new.self.items ≡ ps ++ p ∷ [] = (rw ok at c.push-put.ensures.items) ∙ ap (λ (qs : List Placement). qs ++ p ∷ []) c.in_ok-reserve.ensures.items in
    let left : c.hold.new.gaps.items ≡ carved c.get-from.result (c.get-from.result + p.size) c.self.inside.gaps.items = c.in_ok-is_in_gap.ensures.held (is_free ps) c.self.inside.len c.self.invariant.gaps in
    record {
      gaps = rw (put, left) (gaps_added ps p c.self.inside.len c.get-from.result (c.get-from.result + p.size) c.self.inside.gaps.items from to c.self.invariant.gaps);
      short = c.self.invariant.short;
      early = c.self.invariant.early;
      few = rw (put, length_push ps p) (omega arith);
      uses = rw put (all_push has_use ps p c.self.invariant.uses c.requires.use_of);
      apart = λ still. rw put (apart_added ps p c.self.inside.len c.get-from.result (c.get-from.result + p.size) c.self.inside.gaps.items c.self.inside.is_apart from to c.self.invariant.gaps c.self.invariant.apart (elim c.if-self.branch [
        | then-self w ↦ rw (w.if-self.true, c.in_ok-is_in_gap.ensures.covered (sym w.self-is ∙ still)) refl
        | else-self w ↦ absurd (let no : false ≡ true = sym w.if-self.false ∙ (sym w.self-is ∙ still) in cc)
      ]));
    }
