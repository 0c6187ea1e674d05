use Rattle.std.proofs.Common.{◌≡◌, ℕ, zero, suc, ◌+◌, ◌<◌, List, [], ◌∷◌, ◌++◌, Some, None, length, get_or, drop, refl}
use Rattle.std.proofs.Common.{sym, ap, ◌∙◌, arith}
use Rattle.std.specs.List.{AllByRecursion}
use Rattle.std.proofs.lemmas.List.{drop_more}
use Rattle.minislot_time.specs.Extent.{Extent}
use Rattle.flow_state.specs.declared.channel.Channel.{Channel}
use Rattle.flow_state.specs.declared.flow.Waiting.{Waiting}
use Rattle.grant_machine_parts.specs.Placing.{Placement}
use Rattle.grant_machine_parts.specs.Cutting.{placement_for, request_fit, place_requests}
use Rattle.grant_machine_parts.specs.Ranks.{Ranked, requests_in, IsOfLast}
use Rattle.grant_machine_parts.proofs.waiting.place_requests.Goals as goal

-- a request, and then those behind it
one_first : (span : Extent) (c : Channel) (keep : ℕ) (last : ℕ → ℕ) (w : Waiting) (ws : List Waiting) (ps : List Placement) → place_requests span c keep last (w ∷ ws) ps ≡ place_requests span c keep last ws (place_requests span c keep last (w ∷ []) ps)
one_first span c keep last w ws ps =
    elim (request_fit span keep last w ps) as (λ o. ◌≡◌ {A = List Placement} (elim o [ Some x ↦ place_requests span c keep last ws (ps ++ placement_for c w x ∷ []) | None ↦ place_requests span c keep last ws ps ]) (place_requests span c keep last ws (elim o [ Some x ↦ ps ++ placement_for c w x ∷ [] | None ↦ ps ]))) [
      | Some x ↦ refl
      | None ↦ refl
    ]

all_at : (last : ℕ → ℕ) (rs : List Ranked) (i : ℕ) (d : Ranked) → i < length rs → AllByRecursion (IsOfLast last) rs → IsOfLast last (get_or rs i d)
all_at last [] i d lt all = absurd (omega arith)
all_at last (r ∷ rs) zero d lt all = all.0
all_at last (r ∷ rs) (suc i) d lt all = all_at last rs i d (omega arith) all.1

later : (span now : Extent) (c : Channel) (keep : ℕ) (last : ℕ → ℕ) (rs : List Ranked) (i : ℕ) (d : Ranked) (ps qs : List Placement) → now ≡ span → i < length rs → AllByRecursion (IsOfLast last) rs
    → ((l : ℕ → ℕ) → IsOfLast l (get_or rs i d) → qs ≡ place_requests now c keep l ((get_or rs i d).request ∷ []) ps)
    → place_requests span c keep last (requests_in (drop i rs)) ps ≡ place_requests span c keep last (requests_in (drop (i + 1) rs)) qs
later span now c keep last rs i d ps qs same lt all placed =
    ap (λ (xs : List Ranked). place_requests span c keep last (requests_in xs) ps) (drop_more rs i d lt)
    ∙ one_first span c keep last (get_or rs i d).request (requests_in (drop (i + 1) rs)) ps
    ∙ ap (λ (xs : List Placement). place_requests span c keep last (requests_in (drop (i + 1) rs)) xs) (ap (λ (s : Extent). place_requests s c keep last ((get_or rs i d).request ∷ []) ps) (sym same) ∙ sym (placed last (all_at last rs i d lt all)))

pub loop-one-preserved : goal.loop-one-preserved
loop-one-preserved c = record {
  span = c.in_ok-free.ensures.span ∙ c.loop-one.invariant.span;
  counted = c.in_ok-free.ensures.left;
  rest = λ last are. c.loop-one.invariant.rest last are ∙ later c.args.filling.now.span c.loop-one.filling.span c.args.channel.now c.args.keep last c.args.ranked.now c.loop-one.one-index _ c.loop-one.filling.placements c.place_request.new.filling.placements c.loop-one.invariant.span c.loop-one-test.true are c.in_ok-free.ensures.placed;
}
