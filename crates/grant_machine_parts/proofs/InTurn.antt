-- With nothing kept, a request that has a first fit in its turn is placed.
use Rattle.std.proofs.Common.{◌≡◌, ℕ, ◌+◌, ◌-◌, ◌≤◌, Bool, true, false, cond, ◌&&◌, ◌||◌, List, [], ◌∷◌, ◌++◌, filter}
use Rattle.std.proofs.Common.{length, Option, Some, None, refl, sym, ap, subst, ◌∙◌, arith, inl, inr, eqb, leb}
use Rattle.std.proofs.Common.{append_assoc, length-append}
use Rattle.std.specs.List.{list_any}
use Rattle.std.proofs.lemmas.Bool.{eqb-true, le-leb, and_parts, false_from_ne_true}
use Rattle.std.proofs.lemmas.List.{append-nil}
use Rattle.minislot_time.specs.Extent.{Extent}
use Rattle.flow_state.specs.declared.channel.Channel.{Channel}
use Rattle.flow_state.specs.declared.flow.Waiting.{Waiting}
use Rattle.flow_state.specs.Rows.{Table, is_of, last_of}
use Rattle.grant_machine_parts.specs.Placing.{Placement, is_window, free_minislots, first_fit}
use Rattle.grant_machine_parts.specs.Cutting.{CutSettings, Periodic, placement_at, placement_for, fill_windows, end_of}
use Rattle.grant_machine_parts.specs.Cutting.{in_order, is_grant_of, request_fit, place_requests, fill_span}
use Rattle.flow_state.proofs.Callers.{Has, IsWell, any_has, eqb_same, filter_append, filter_empty, filter_has, has_any}
use Rattle.flow_state.proofs.Callers.{has_either, has_left, has_pushed, has_right}
use Rattle.grant_machine_parts.proofs.Counted.{fit_room}
use Rattle.grant_machine_parts.proofs.Fillings.{fit_tells, windows_keep}
use Rattle.grant_machine_parts.proofs.Orders.{in_order_fewer}

-- ---- requests in two parts

in_parts : (span : Extent) (c : Channel) (keep : ℕ) (last : ℕ → ℕ) (us ws : List Waiting) (ps : List Placement) → place_requests span c keep last (us ++ ws) ps ≡ place_requests span c keep last ws (place_requests span c keep last us ps)
in_parts span c keep last [] ws ps = refl
in_parts span c keep last (u ∷ us) ws ps =
    elim (request_fit span keep last u ps) as (λ o. ◌≡◌ {A = List Placement} (elim o [ Some x ↦ place_requests span c keep last (us ++ ws) (ps ++ placement_for c u x ∷ []) | None ↦ place_requests span c keep last (us ++ ws) ps ])
    (place_requests span c keep last ws (elim o [ Some x ↦ place_requests span c keep last us (ps ++ placement_for c u x ∷ []) | None ↦ place_requests span c keep last us ps ]))) [
      | Some x ↦ in_parts span c keep last us ws (ps ++ placement_for c u x ∷ [])
      | None ↦ in_parts span c keep last us ws ps
    ]

-- what requests add, each of it for one of them
pub record Adds (c : Channel) (ws : List Waiting) (ps all : List Placement) : Type 0 where
  pub more : List Placement
  pub is : all ≡ ps ++ more
  pub each : (p : Placement) → Has more p → (w : Waiting) × Has ws w × (x : ℕ) × (placement_for c w x ≡ p)

adds : (span : Extent) (c : Channel) (keep : ℕ) (last : ℕ → ℕ) (ws : List Waiting) (ps : List Placement) → Adds c ws ps (place_requests span c keep last ws ps)
adds span c keep last [] ps = record { more = []; is = sym (append-nil ps); each = λ p h. absurd h }
adds span c keep last (w ∷ ws) ps =
    elim (request_fit span keep last w ps) as (λ o. Adds c (w ∷ ws) ps (elim o [ Some x ↦ place_requests span c keep last ws (ps ++ placement_for c w x ∷ []) | None ↦ place_requests span c keep last ws ps ])) [
      | Some x ↦
          let later = adds span c keep last ws (ps ++ placement_for c w x ∷ []) in
          record {
            more = placement_for c w x ∷ later.more;
            is = later.is ∙ append_assoc ps (placement_for c w x ∷ []) later.more;
            each = λ p h. elim h [
              | inl same ↦ (w, inl refl, x, same)
              | inr k ↦ let m = later.each p k in (m.0, inr m.1, m.2, m.3)
            ];
          }
      | None ↦ let later = adds span c keep last ws ps in record { more = later.more; is = later.is; each = λ p h. let m = later.each p h in (m.0, inr m.1, m.2, m.3) }
    ]

-- ---- one turn

module _ (t : Table) (span : Extent) (s : CutSettings) (before behind : List Waiting) (w : Waiting) where
  abbrev is_ahead : Placement → Bool
  is_ahead p = is_window p.cause || list_any (λ v. is_grant_of v p) before

  -- due times are ahead of all requests
  abbrev AreDue : List Placement → Type 0
  AreDue ps = (p : Placement) → Has ps p → is_ahead p ≡ true

  due_more : (p : Periodic) (j x : ℕ) (ps : List Placement) → AreDue ps → AreDue (ps ++ placement_at p j x ∷ [])
  due_more p j x ps due q h = elim (has_pushed ps (placement_at p j x) q h) [
    | inl old ↦ due q old
    | inr same ↦ ap is_ahead (sym same)
  ]

  abbrev windows : List Placement
  windows = (fill_windows t span).placements

  windows_due : AreDue windows
  windows_due = windows_keep AreDue t span (λ p ps j x k v. due_more p j x ps k) (λ p h. absurd h)

  -- a grant to one of the requests before is ahead, and one to another isn't
  grant_is : (c : Channel) (v : Waiting) (x : ℕ) → is_grant_of v (placement_for c v x) ≡ true
  grant_is c v x = both (eqb v.sid v.sid) (eqb v.sent v.sent) (eqb_same v.sid) (eqb_same v.sent)
    where
      both : (a b : Bool) → a ≡ true → b ≡ true → (a && b) ≡ true
      both true true e f = refl
      both true false e f = absurd cc
      both false b e f = absurd cc

  ahead : (v : Waiting) (x : ℕ) → Has before v → is_ahead (placement_for t.row.channel v x) ≡ true
  ahead v x h = has_any (λ u. is_grant_of u (placement_for t.row.channel v x)) before v h (grant_is t.row.channel v x)

  -- where each SID waits once at most
  module _ (one : (sid : ℕ) → length (filter (is_of sid) (before ++ w ∷ behind)) ≤ 1) where
    apart : (v u : Waiting) → Has before v → Has (w ∷ behind) u → v.sid ≡ u.sid → ⊥
    apart v u h k same =
        let first = some (filter (is_of u.sid) before) v (filter_has (is_of u.sid) before v h (ap (λ n. eqb n u.sid) same ∙ eqb_same u.sid)) in
        let second = some (filter (is_of u.sid) (w ∷ behind)) u (filter_has (is_of u.sid) (w ∷ behind) u k (eqb_same u.sid)) in
        let parts : length (filter (is_of u.sid) (before ++ w ∷ behind)) ≡ length (filter (is_of u.sid) before) + length (filter (is_of u.sid) (w ∷ behind)) =
        ap length (filter_append (is_of u.sid) before (w ∷ behind)) ∙ length-append (filter (is_of u.sid) before) (filter (is_of u.sid) (w ∷ behind)) in
        let most = one u.sid in
        omega arith
      where
        some : (vs : List Waiting) (y : Waiting) → Has vs y → 1 ≤ length vs
        some [] y has = absurd has
        some (z ∷ vs) y has = omega arith

    not_ahead : (u : Waiting) (x : ℕ) → Has (w ∷ behind) u → is_ahead (placement_for t.row.channel u x) ≡ false
    not_ahead u x k = false_from_ne_true _ (λ e.
        let m = any_has (λ v. is_grant_of v (placement_for t.row.channel u x)) before e in
        apart m.0 u m.1 k (sym (eqb-true _ _ (and_parts _ _ m.2).0)))

    -- what is placed before the turn
    abbrev first : List Placement
    first = place_requests span t.row.channel s.keep (last_of t) before windows

    abbrev all : List Placement
    all = place_requests span t.row.channel s.keep (last_of t) (before ++ w ∷ behind) windows

    ahead_all : filter is_ahead first ≡ first
    ahead_all = kept first (λ p h.
        let a = adds span t.row.channel s.keep (last_of t) before windows in
        elim (has_either windows a.more p (subst (λ (ps : List Placement). Has ps p) a.is h)) [
          | inl due ↦ windows_due p due
          | inr k ↦ let m = a.each p k in ap is_ahead (sym m.3) ∙ ahead m.0 m.2 m.1
        ])
      where
        kept : (ps : List Placement) → ((p : Placement) → Has ps p → is_ahead p ≡ true) → filter is_ahead ps ≡ ps
        kept [] each = refl
        kept (p ∷ ps) each = ap (λ b. cond b (p ∷ filter is_ahead ps) (filter is_ahead ps)) (each p (inl refl)) ∙ ap (λ (qs : List Placement). p ∷ qs) (kept ps (λ q h. each q (inr h)))

    pub at_turn : filter is_ahead all ≡ first
    at_turn =
        let b = adds span t.row.channel s.keep (last_of t) (w ∷ behind) first in
        ap (filter is_ahead) (in_parts span t.row.channel s.keep (last_of t) before (w ∷ behind) windows ∙ b.is)
        ∙ filter_append is_ahead first b.more
        ∙ ap (λ (ps : List Placement). ps ++ filter is_ahead b.more) ahead_all
        ∙ ap (λ (ps : List Placement). first ++ ps) (filter_empty is_ahead b.more (λ p h. let m = b.each p h in ap is_ahead (sym m.3) ∙ not_ahead m.0 m.2 m.1))
        ∙ append-nil first

    pub placed : (x : ℕ) → s.keep ≡ 0 → first_fit span first w.n span.start (end_of span - w.n) (last_of t w.sid) ≡ Some x → Has all (placement_for t.row.channel w x)
    placed x none fits =
        let room = fit_room span first w.n (last_of t w.sid) x (fit_tells span first w.n span.start (end_of span - w.n) (last_of t w.sid) x fits) in
        let free : leb (w.n + s.keep) (free_minislots span first) ≡ true = le-leb (w.n + s.keep) (free_minislots span first) (omega arith) in
        let fit : request_fit span s.keep (last_of t) w first ≡ Some x = ap (λ b. cond b (first_fit span first w.n span.start (end_of span - w.n) (last_of t w.sid)) None) free ∙ fits in
        let now : place_requests span t.row.channel s.keep (last_of t) (w ∷ []) first ≡ first ++ placement_for t.row.channel w x ∷ [] =
        ap (λ (o : Option ℕ). elim o [ Some y ↦ first ++ placement_for t.row.channel w y ∷ [] | None ↦ first ]) fit in
        let later = adds span t.row.channel s.keep (last_of t) behind (first ++ placement_for t.row.channel w x ∷ []) in
        let whole : all ≡ (first ++ placement_for t.row.channel w x ∷ []) ++ later.more =
        in_parts span t.row.channel s.keep (last_of t) before (w ∷ behind) windows ∙ in_parts span t.row.channel s.keep (last_of t) (w ∷ []) behind first
        ∙ ap (place_requests span t.row.channel s.keep (last_of t) behind) now ∙ later.is in
        subst (λ (ps : List Placement). Has ps (placement_for t.row.channel w x)) (sym whole)
        (has_left (first ++ placement_for t.row.channel w x ∷ []) later.more _ (has_right first (placement_for t.row.channel w x ∷ []) _ (inl refl)))

-- of a filled MAP
pub in_turn : (t : Table) (span : Extent) (s : CutSettings) (before behind : List Waiting) (w : Waiting) (x : ℕ) → IsWell t → s.keep ≡ 0 → in_order t t.waiting ≡ before ++ w ∷ behind
    → first_fit span (filter (λ p. is_window p.cause || list_any (λ v. is_grant_of v p) before) (fill_span t span s).placements) w.n span.start (end_of span - w.n) (last_of t w.sid) ≡ Some x
    → Has (fill_span t span s).placements (placement_for t.row.channel w x)
in_turn t span s before behind w x well none order fits =
    let fewer : (sid : ℕ) → length (filter (is_of sid) (before ++ w ∷ behind)) ≤ 1 = λ sid.
    subst (λ (ws : List Waiting). length (filter (is_of sid) ws) ≤ 1) order (let least = in_order_fewer (is_of sid) t t.waiting in let one = well.alone sid in omega arith) in
    let same : (fill_span t span s).placements ≡ all t span s before behind w fewer =
    ap (λ (ws : List Waiting). place_requests span t.row.channel s.keep (last_of t) ws (windows t span s before behind w)) order in
    let turn : filter (is_ahead t span s before behind w) (fill_span t span s).placements ≡ first t span s before behind w fewer = ap (filter (is_ahead t span s before behind w)) same ∙ at_turn t span s before behind w fewer in
    subst (λ (ps : List Placement). Has ps (placement_for t.row.channel w x)) (sym same)
    (placed t span s before behind w fewer x none (ap (λ (ps : List Placement). first_fit span ps w.n span.start (end_of span - w.n) (last_of t w.sid)) (sym turn) ∙ fits))
