-- The body of a filled MAP: its elements are those of a body, and each minislot is its holder's.
use Rattle.std.proofs.Common.{◌≡◌, ◌≢◌, ◌⊎◌, ℕ, zero, suc, ◌+◌, ◌-◌, ◌<◌, ◌≤◌, ◌^◌, Bool, true, false, cond, ◌&&◌, ◌||◌}
use Rattle.std.proofs.Common.{List, [], ◌∷◌, ◌++◌, map, length, Option, Some, None, refl, sym, ap, subst, ◌∙◌, arith}
use Rattle.std.proofs.Common.{inl, inr, eqb, leb, ltb, is_some, slice_get, length-append}
use Rattle.std.proofs.Math.Bool.{or-true}
use Rattle.std.specs.List.{list_any, AllByRecursion}
use Rattle.std.proofs.lemmas.Bool.{eqb-true, eqb-false, leb-true, ltb-true, le-leb, lt-ltb, cases_lt, and_parts}
use Rattle.std.proofs.lemmas.Bool.{false_from_ne_true}
use Rattle.std.proofs.lemmas.Option.{same_Some}
use Rattle.map_body.specs.Sids.{everybody}
use Rattle.minislot_time.specs.Extent.{Extent}
use Rattle.map_body.specs.declared.element.Element.{Element}
use Rattle.map_body.specs.Body.{Body}
use Rattle.map_body.specs.Rules.{FitsElement, AreElements, Falls, NoNullBefore}
use Rattle.map_body.specs.Cell.{IsCell}
use Rattle.flow_state.specs.Limits.{last_time, last_sid, most_minislots}
use Rattle.flow_state.specs.Rows.{Table}
use Rattle.grant_machine_parts.specs.Placing.{Placement, holds, holder, most_placements}
use Rattle.grant_machine_parts.specs.Cutting.{end_of, CutSettings, fill_span}
use Rattle.grant_machine_parts.specs.Drawing.{told_sid, placed_element, free_element, null_element, beginning}
use Rattle.grant_machine_parts.specs.Drawing.{begins_at}
use Rattle.grant_machine_parts.specs.Filling.{IsUseFor}
use Rattle.map_body.proofs.Callers.{get_behind}
use Rattle.flow_state.proofs.Callers.{Has, has_at, has_either, has_pushed, has_any, has_found, found_has, unfound}
use Rattle.flow_state.proofs.Callers.{all_has}
use Rattle.flow_state.proofs.Callers.{eqb_apart, eqb_same}
use Rattle.flow_state.proofs.Callers.{IsWell}
use Rattle.grant_machine_parts.proofs.Fillings.{IsUse, plain_request, IsFor, IsLeased, MayPlace, fill_keeps}
use Rattle.grant_machine_parts.proofs.Offsets.{InList, begun, StandAt, begun_has, next_to, in_row, begun_count}
use Rattle.grant_machine_parts.proofs.Offsets.{at_front, named_twice}

-- ---- the placements of a filled MAP

-- a placement of a MAP: some minislots within it and its lease, to a unicast SID, for what it serves
pub record IsPlaced (t : Table) (span : Extent) (q : Placement) : Type 0 where
  pub some : 1 ≤ q.size
  pub most : q.size ≤ 255
  pub unicast : 1 ≤ q.sid
  pub last : q.sid ≤ last_sid
  pub iuc : IsUse q.iuc
  pub within : q.offset + q.size ≤ span.len
  pub serves : IsFor t span q q.cause
  pub leased : IsLeased t span q
  pub use_is : IsUseFor t.row.channel.phy q.cause q.iuc

-- sixty placements at most, and no minislot in two
pub record ArePlaced (t : Table) (span : Extent) (ps : List Placement) : Type 0 where
  pub each : (p : Placement) → Has ps p → IsPlaced t span p
  pub apart : (x : ℕ) (p q : Placement) → Has ps p → Has ps q → holds x p ≡ true → holds x q ≡ true → p ≡ q
  pub few : length ps ≤ most_placements

pub holds_from : (x : ℕ) (p : Placement) → holds x p ≡ true → p.offset ≤ x
holds_from x p e = leb-true _ _ (and_parts _ _ e).0

pub holds_below : (x : ℕ) (p : Placement) → holds x p ≡ true → x < p.offset + p.size
holds_below x p e = ltb-true _ _ (and_parts _ _ e).1

pub it_holds : (x : ℕ) (p : Placement) → p.offset ≤ x → x < p.offset + p.size → holds x p ≡ true
it_holds x p ge lt = by (leb p.offset x) (ltb x (p.offset + p.size)) (le-leb p.offset x ge) (lt-ltb x (p.offset + p.size) lt)
  where
    by : (a b : Bool) → a ≡ true → b ≡ true → (a && b) ≡ true
    by true true e f = refl
    by true false e f = absurd cc
    by false b e f = absurd cc

placed_more : (t : Table) (span : Extent) (ps : List Placement) (q : Placement) → ArePlaced t span ps → MayPlace t span ps q → ArePlaced t span (ps ++ q ∷ [])
placed_more t span ps q a m = record {
  each = λ p h. elim (has_pushed ps q p h) [
    | inl old ↦ a.each p old
    | inr same ↦ subst (IsPlaced t span) same (record { some = m.some; most = m.most; unicast = m.unicast; last = m.last; iuc = m.iuc; within = m.fit.within; serves = m.serves; leased = m.leased; use_is = m.use_is })
  ];
  apart = λ x p r h k d e. by x p r (has_pushed ps q p h) (has_pushed ps q r k) d e;
  few = let room = m.fit.few in let len = length-append ps (q ∷ []) in omega arith;
}
  where
    not_both : (x : ℕ) (p r : Placement) → Has ps p → q ≡ r → holds x p ≡ true → holds x r ≡ true → ⊥
    not_both x p r h same d e =
        let mine : holds x q ≡ true = ap (holds x) same ∙ e in
        let off : holds x p ≡ false = unfound (holds x) ps p (m.fit.free x (holds_from x q mine) (holds_below x q mine)) h in
        cc

    by : (x : ℕ) (p r : Placement) → Has ps p ⊎ (q ≡ p) → Has ps r ⊎ (q ≡ r) → holds x p ≡ true → holds x r ≡ true → p ≡ r
    by x p r (inl h) (inl k) d e = a.apart x p r h k d e
    by x p r (inl h) (inr same) d e = absurd (not_both x p r h same d e)
    by x p r (inr same) (inl k) d e = absurd (not_both x r p k same e d)
    by x p r (inr s) (inr u) d e = sym s ∙ u

pub fill_placed : (t : Table) (span : Extent) (s : CutSettings) → IsWell t → end_of span ≤ last_time → ArePlaced t span (fill_span t span s).placements
fill_placed t span s w le =
    fill_keeps (ArePlaced t span) t span s w le (λ ps q a m. placed_more t span ps q a m) (record { each = λ p h. absurd h; apart = λ x p q h k d e. absurd h; few = omega arith })

-- a SID that a MAP tells fits its field
told_fits : (sid iuc : ℕ) → sid ≤ last_sid → told_sid sid iuc < 2 ^ 14
told_fits sid iuc last = by (eqb iuc 3)
  where
    by : (b : Bool) → cond b everybody sid < 2 ^ 14
    by true = omega arith
    by false = omega arith

-- ---- which element begins at an offset

module _ (t : Table) (span : Extent) (ps : List Placement) (a : ArePlaced t span ps) where
  pub holder_is : (x : ℕ) (p : Placement) → Has ps p → holds x p ≡ true → holder ps x ≡ Some p
  holder_is x p h on =
      let f = has_found (holds x) ps p h on in
      let q = found_has (holds x) ps f.0 f.1 in
      f.1 ∙ ap (λ (r : Placement). Some r) (a.apart x f.0 p q.0 h q.1 on)

  -- a placement's element begins at its first minislot, and none at its others
  pub placed_begins : (p : Placement) → Has ps p → begins_at ps p.offset ≡ Some (placed_element p)
  placed_begins p h =
      let some = (a.each p h).some in
      ap (beginning p.offset (holder ps (p.offset - 1))) (holder_is p.offset p h (it_holds p.offset p (omega arith) (omega arith)))
      ∙ ap (λ b. cond b (Some (placed_element p)) None) (eqb_same p.offset)

  pub inside_none : (p : Placement) (z : ℕ) → Has ps p → p.offset < z → z < p.offset + p.size → begins_at ps z ≡ None
  inside_none p z h gt lt =
      ap (beginning z (holder ps (z - 1))) (holder_is z p h (it_holds z p (omega arith) lt))
      ∙ ap (λ b. cond b (Some (placed_element p)) None) (eqb_apart p.offset z gt)

  -- some element begins behind a placement
  pub behind_begins : (p : Placement) → Has ps p → begins_at ps (p.offset + p.size) ≢ None
  behind_begins p h none = by (holder ps (p.offset + p.size)) refl
    where
      z : ℕ
      z = p.offset + p.size

      some : 1 ≤ p.size
      some = (a.each p h).some

      before : holder ps (p.offset + p.size - 1) ≡ Some p
      before = holder_is (p.offset + p.size - 1) p h (it_holds (p.offset + p.size - 1) p (omega (arith, (a.each p h).some)) (omega (arith, (a.each p h).some)))

      by : (o : Option Placement) → holder ps (p.offset + p.size) ≡ o → ⊥
      by None e =
          let begins : begins_at ps (p.offset + p.size) ≡ Some (free_element (p.offset + p.size)) =
          ap (beginning (p.offset + p.size) (holder ps (p.offset + p.size - 1))) e
          ∙ ap (λ (o : Option Placement). cond (eqb (p.offset + p.size) 0 || is_some o) (Some (free_element (p.offset + p.size))) None) before
          ∙ ap (λ b. cond b (Some (free_element (p.offset + p.size))) None) (or-true (eqb (p.offset + p.size) 0)) in
          cc
      by (Some q) e =
          let found = found_has (holds (p.offset + p.size)) ps q e in
          let begins : begins_at ps (p.offset + p.size) ≡ cond (eqb q.offset (p.offset + p.size)) (Some (placed_element q)) None = ap (beginning (p.offset + p.size) (holder ps (p.offset + p.size - 1))) e in
          on q found.0 found.1 (eqb q.offset (p.offset + p.size)) refl begins
        where
          on : (q : Placement) → Has ps q → holds (p.offset + p.size) q ≡ true → (b : Bool) → eqb q.offset (p.offset + p.size) ≡ b → begins_at ps (p.offset + p.size) ≡ cond (eqb q.offset (p.offset + p.size)) (Some (placed_element q)) None → ⊥
          on q k holds_it true f begins = let is : begins_at ps (p.offset + p.size) ≡ Some (placed_element q) = begins ∙ ap (λ b. cond b (Some (placed_element q)) None) f in cc
          on q k holds_it false f begins =
              let from : q.offset ≤ p.offset + p.size = holds_from (p.offset + p.size) q holds_it in
              let below : p.offset + p.size < q.offset + q.size = holds_below (p.offset + p.size) q holds_it in
              let off : ¬ (q.offset ≡ p.offset + p.size) = eqb-false q.offset (p.offset + p.size) f in
              let less : q.offset ≤ p.offset + p.size - 1 = lower q.offset (p.offset + p.size) from off in
              let big : 1 ≤ p.size = (a.each p h).some in
              let one : q ≡ p = a.apart (p.offset + p.size - 1) q p k h (it_holds (p.offset + p.size - 1) q less (omega arith)) (it_holds (p.offset + p.size - 1) p (omega arith) (omega arith)) in
              let ends : q.offset + q.size ≡ p.offset + p.size = ap (λ (r : Placement). r.offset + r.size) one in
              omega arith
            where
              lower : (m n : ℕ) → m ≤ n → ¬ (m ≡ n) → m ≤ n - 1
              lower m n le off = grind (arith, off)

  -- what begins at an offset: a placement's element, or that of free minislots, at the front of the MAP or behind a placement
  pub record BeginsFree (x : ℕ) (e : Element) : Type 0 where
    pub is : free_element x ≡ e
    pub free : holder ps x ≡ None
    pub after : (x ≡ 0) ⊎ ((p : Placement) × Has ps p × (p.offset + p.size ≡ x))

  pub what_begins : (x : ℕ) (e : Element) → begins_at ps x ≡ Some e → ((p : Placement) × Has ps p × (p.offset ≡ x) × (placed_element p ≡ e)) ⊎ BeginsFree x e
  what_begins x e is = by (holder ps x) refl
    where
      by : (o : Option Placement) → holder ps x ≡ o → ((p : Placement) × Has ps p × (p.offset ≡ x) × (placed_element p ≡ e)) ⊎ BeginsFree x e
      by (Some p) f = on (eqb p.offset x) refl (sym (ap (beginning x (holder ps (x - 1))) f) ∙ is)
        where
          on : (b : Bool) → eqb p.offset x ≡ b → cond b (Some (placed_element p)) None ≡ Some e → ((p : Placement) × Has ps p × (p.offset ≡ x) × (placed_element p ≡ e)) ⊎ BeginsFree x e
          on true g h = inl (p, (found_has (holds x) ps p f).0, eqb-true _ _ g, same_Some _ _ h)
          on false g h = absurd cc
      by None f = on (eqb x 0) (holder ps (x - 1)) refl refl (sym (ap (beginning x (holder ps (x - 1))) f) ∙ is)
        where
          on : (b : Bool) (o : Option Placement) → eqb x 0 ≡ b → holder ps (x - 1) ≡ o → cond (b || is_some o) (Some (free_element x)) None ≡ Some e → ((p : Placement) × Has ps p × (p.offset ≡ x) × (placed_element p ≡ e)) ⊎ BeginsFree x e
          on true o g k h = inr (record { is = same_Some _ _ h; free = f; after = inl (eqb-true _ _ g) })
          on false None g k h = absurd cc
          on false (Some p) g k h =
              let found = found_has (holds (x - 1)) ps p k in
              let from : p.offset ≤ x - 1 = holds_from (x - 1) p found.1 in
              let below : x - 1 < p.offset + p.size = holds_below (x - 1) p found.1 in
              let not_zero : ¬ (x ≡ 0) = eqb-false x 0 g in
              inr (record { is = same_Some _ _ h; free = f; after = inr (p, found.0, ends p from below not_zero (unfound (holds x) ps p f found.0)) })
            where
              at : (o s : ℕ) → o ≤ x - 1 → x - 1 < o + s → ¬ (x ≡ 0) → o + s ≤ x → o + s ≡ x
              at o s from below not_zero ge = grind (arith, not_zero)

              ends : (q : Placement) → q.offset ≤ x - 1 → x - 1 < q.offset + q.size → ¬ (x ≡ 0) → holds x q ≡ false → q.offset + q.size ≡ x
              ends q from below not_zero off = elim (cases_lt x (q.offset + q.size)) [
                | inl lt ↦ absurd (let on = it_holds x q (omega arith) lt in cc)
                | inr ge ↦ at q.offset q.size from below not_zero ge
              ]

  pub stand_at : StandAt (begins_at ps)
  stand_at x e is = elim (what_begins x e is) [
    | inl p ↦ ap (λ (d : Element). d.offset) (sym p.3) ∙ p.2
    | inr f ↦ ap (λ (d : Element). d.offset) (sym f.is)
  ]

-- ---- the elements of a body

module _ (t : Table) (span : Extent) (ps : List Placement) (a : ArePlaced t span ps) (len : ℕ) (len_is : span.len ≡ len) (most : len ≤ most_minislots) (rest : List Element)
    (plain : (e : Element) → Has rest e → IsUse e.iuc × FitsElement e) where
  -- the elements of the MAP
  abbrev pub es : List Element
  es = begun (begins_at ps) 0 len ++ null_element len ∷ rest

  abbrev pub count : ℕ
  count = length (begun (begins_at ps) 0 len)

  before_null : (e : Element) → Has (begun (begins_at ps) 0 len) e → IsUse e.iuc × FitsElement e
  before_null e h =
      let b = begun_has (begins_at ps) 0 len e h in
      let here = stand_at t span ps a b.0 e b.3 in
      let offset : e.offset < 2 ^ 14 = omega (arith, b.2, here) in
      elim (what_begins t span ps a b.0 e b.3) [
        | inl p ↦
            let placed = a.each p.0 p.1 in
            let sid_is : told_sid p.0.sid p.0.iuc ≡ e.sid = ap (λ (d : Element). d.sid) p.3 in
            let iuc_is : p.0.iuc ≡ e.iuc = ap (λ (d : Element). d.iuc) p.3 in
            let use_is : IsUse e.iuc = subst IsUse iuc_is placed.iuc in
            let told = told_fits p.0.sid p.0.iuc placed.last in
            let small = use_is.1 in
            (use_is, record { sid = omega arith; iuc = omega arith; offset = offset })
        | inr f ↦
            let sid_is : everybody ≡ e.sid = ap (λ (d : Element). d.sid) f.is in
            let iuc_is : 1 ≡ e.iuc = ap (λ (d : Element). d.iuc) f.is in
            (plain_request e.iuc (sym iuc_is), record { sid = omega arith; iuc = omega arith; offset = offset })
      ]

  each_element : (e : Element) → Has es e → (e.iuc < 15) × FitsElement e
  each_element e h = elim (has_either (begun (begins_at ps) 0 len) (null_element len ∷ rest) e h) [
    | inl l ↦ let b = before_null e l in (b.0.1, b.1)
    | inr r ↦ elim r [
      | inl same ↦
          let sid_is : 0 ≡ e.sid = ap (λ (d : Element). d.sid) same in
          let iuc_is : 7 ≡ e.iuc = ap (λ (d : Element). d.iuc) same in
          let offset_is : len ≡ e.offset = ap (λ (d : Element). d.offset) same in
          (omega arith, record { sid = omega arith; iuc = omega arith; offset = omega arith })
      | inr m ↦ let b = plain e m in (b.0.1, b.1)
    ]
  ]

  -- the Null is the first one, and stands behind those that begin
  pub null_at : slice_get es count ≡ Some (null_element len)
  null_at = get_behind (begun (begins_at ps) 0 len) (null_element len ∷ rest) 0 _ (omega arith)

  pub none_before : NoNullBefore es count
  none_before k lt n =
      let use_is = (before_null n.0 (at_front (begun (begins_at ps) 0 len) (null_element len ∷ rest) k n.0 n.1 lt)).0 in
      use_is.0 n.2

  pub are_elements : AreElements es
  are_elements = record {
    no_expansion = λ i x. let small = (each_element x.0 (has_at es i x.0 x.1)).0 in let is : x.0.iuc ≡ 15 = x.2 in omega arith;
    in_order = λ i f. falls_not i f;
    has_null = (count, (null_element len, null_at, refl));
  }
    where
      falls_not : (i : ℕ) → Falls es i → ⊥
      falls_not i f = elim (cases_lt count i) [
        | inl lt ↦ f.not_after_null count lt (null_element len, null_at, refl)
        | inr le ↦
            let next = f.next in
            let below = f.below in
            let up = (next_to (begins_at ps) (stand_at t span ps a) 0 len (null_element len) rest f.place f.before f.here (omega arith) f.before_is (subst (λ k. slice_get es k ≡ Some f.here) f.next f.here_is) (omega arith)).rises in
            omega arith
      ]

  pub elements_fit : AllByRecursion FitsElement es
  elements_fit = all_has FitsElement es (λ e h. (each_element e h).1)

  -- at most twice as many elements as placements, and one more, before the Null
  pub count_few : count ≤ 121
  count_few =
      let fewer = begun_count (begins_at ps) (λ x. eqb 0 x || (list_any (λ p. eqb p.offset x) ps || list_any (λ p. eqb (p.offset + p.size) x) ps)) 0 len named in
      let all = named_twice (λ (p : Placement). p.offset) (λ (p : Placement). p.offset + p.size) ps len in
      let few = a.few in
      omega arith
    where
      named : (x : ℕ) (e : Element) → begins_at ps x ≡ Some e → (eqb 0 x || (list_any (λ p. eqb p.offset x) ps || list_any (λ p. eqb (p.offset + p.size) x) ps)) ≡ true
      named x e is = elim (what_begins t span ps a x e is) [
        | inl p ↦ ap (λ b. eqb 0 x || (b || list_any (λ p. eqb (p.offset + p.size) x) ps)) (has_any (λ p. eqb p.offset x) ps p.0 p.1 (ap (λ n. eqb n x) p.2 ∙ eqb_same x)) ∙ or-true (eqb 0 x)
        | inr f ↦ elim f.after [
          | inl zero_is ↦ ap (λ b. b || (list_any (λ p. eqb p.offset x) ps || list_any (λ p. eqb (p.offset + p.size) x) ps)) (ap (λ n. eqb 0 n) zero_is)
          | inr q ↦ ap (λ b. eqb 0 x || (list_any (λ p. eqb p.offset x) ps || b)) (has_any (λ p. eqb (p.offset + p.size) x) ps q.0 q.1 (ap (λ n. eqb n x) q.2 ∙ eqb_same x))
              ∙ ap (λ b. eqb 0 x || b) (or-true (list_any (λ p. eqb p.offset x) ps)) ∙ or-true (eqb 0 x)
        ]
      ]

  -- ---- cells

  pub cell_from : (map : Body) (x : ℕ) (e : Element) → map.elements ≡ es → e.offset ≤ x → InList es count x e → IsCell map x e
  cell_from map x e same from r = record {
    place = r.place;
    next = r.next;
    here_is = ap (λ (ds : List Element). slice_get ds r.place) same ∙ r.here_is;
    next_is = ap (λ (ds : List Element). slice_get ds (suc r.place)) same ∙ r.next_is;
    before_null = subst (λ (ds : List Element). NoNullBefore ds (suc r.place)) (sym same) (λ k lt. none_before k (let inside = r.inside in omega arith));
    begun = from;
    not_ended = r.not_ended;
  }

  -- a minislot that a placement holds is in its element's interval
  pub cell_of_placement : (map : Body) (x : ℕ) (p : Placement) → map.elements ≡ es → Has ps p → holds x p ≡ true → IsCell map x (placed_element p)
  cell_of_placement map x p same h on =
      let from = holds_from x p on in
      let below = holds_below x p on in
      let within = (a.each p h).within in
      cell_from map x (placed_element p) same from
      (in_row (begins_at ps) (stand_at t span ps a) 0 len (null_element len) rest p.offset x (placed_element p) (omega arith) (omega arith) from (omega arith)
      (placed_begins t span ps a p h) (λ z gt le. inside_none t span ps a p z h gt (omega arith)))

  -- whose a minislot is: a placement's that holds it, or all modems' for requests, and then no placement holds it
  pub record TellsFree (x : ℕ) (e : Element) : Type 0 where
    pub all : e.sid ≡ everybody
    pub use_is : e.iuc ≡ 1
    pub free : holder ps x ≡ None

  pub record TellsCell (x : ℕ) (e : Element) : Type 0 where
    pub within : x < len
    pub whose : ((p : Placement) × Has ps p × (holds x p ≡ true) × (placed_element p ≡ e)) ⊎ TellsFree x e

  pub cell_tells : (map : Body) (x : ℕ) (e : Element) → map.elements ≡ es → IsCell map x e → TellsCell x e
  cell_tells map x e same c =
      let here_is : slice_get es c.place ≡ Some e = ap (λ (ds : List Element). slice_get ds c.place) (sym same) ∙ c.here_is in
      let next_is : slice_get es (suc c.place) ≡ Some c.next = ap (λ (ds : List Element). slice_get ds (suc c.place)) (sym same) ∙ c.next_is in
      let inside : c.place < count = elim (cases_lt c.place count) [
        | inl lt ↦ lt
        | inr le ↦ absurd (subst (λ (ds : List Element). NoNullBefore ds (suc c.place)) same c.before_null count (omega arith) (null_element len, null_at, refl))
      ] in
      let n = next_to (begins_at ps) (stand_at t span ps a) 0 len (null_element len) rest c.place e c.next (omega arith) here_is next_is (omega arith) in
      let b = begun_has (begins_at ps) 0 len e (at_front (begun (begins_at ps) 0 len) (null_element len ∷ rest) c.place e here_is inside) in
      let stands = stand_at t span ps a b.0 e b.3 in
      let ended = c.not_ended in
      let within = n.within in
      record {
        within = omega arith;
        whose = elim (what_begins t span ps a b.0 e b.3) [
          | inl p ↦ inl (p.0, p.1, held p.0 p.1 p.2 stands c.begun (λ z gt lt. n.gap z gt lt) c.not_ended, p.3)
          | inr f ↦ inr (record {
            all = ap (λ (d : Element). d.sid) (sym f.is);
            use_is = ap (λ (d : Element). d.iuc) (sym f.is);
            free = unheld b.0 stands c.begun f.free (λ z gt lt. n.gap z gt lt) c.not_ended (holder ps x) refl;
          })
        ];
      }
    where
      unheld : (y : ℕ) → e.offset ≡ y → e.offset ≤ x → holder ps y ≡ None → ((z : ℕ) → e.offset < z → z < c.next.offset → begins_at ps z ≡ None) → x < c.next.offset
          → (o : Option Placement) → holder ps x ≡ o → o ≡ None
      unheld y stands from free gap ended None f = refl
      unheld y stands from free gap ended (Some p) f =
          let found = found_has (holds x) ps p f in
          let low : p.offset ≤ x = holds_from x p found.1 in
          let high : x < p.offset + p.size = holds_below x p found.1 in
          absurd (elim (cases_lt e.offset p.offset) [
            | inl later ↦
                let none : begins_at ps p.offset ≡ None = gap p.offset later (omega arith) in
                let some : begins_at ps p.offset ≡ Some (placed_element p) = placed_begins t span ps a p found.0 in
                cc
            | inr before ↦
                let on : holds y p ≡ true = it_holds y p (omega arith) (omega arith) in
                let off : holds y p ≡ false = unfound (holds y) ps p free found.0 in
                cc
          ])

      held : (p : Placement) → Has ps p → {y : ℕ} → p.offset ≡ y → e.offset ≡ y → e.offset ≤ x → ((z : ℕ) → e.offset < z → z < c.next.offset → begins_at ps z ≡ None) → x < c.next.offset → holds x p ≡ true
      held p h {y} at stands from gap ended = elim (cases_lt x (p.offset + p.size)) [
        | inl lt ↦ it_holds x p (omega arith) lt
        | inr le ↦ let some = (a.each p h).some in absurd (behind_begins t span ps a p h (gap (p.offset + p.size) (omega arith) (omega arith)))
      ]

  -- the run of free minislots that a minislot is of, up to it
  record FreeRun (x : ℕ) : Type 0 where
    pub from : ℕ
    pub begun_by : from ≤ x
    pub begins : begins_at ps from ≡ Some (free_element from)
    pub none : (z : ℕ) → from < z → z ≤ x → begins_at ps z ≡ None

  begins_free : (x : ℕ) (o : Option Placement) → holder ps (x - 1) ≡ o → holder ps x ≡ None → begins_at ps x ≡ cond (eqb x 0 || is_some o) (Some (free_element x)) None
  begins_free x o before here = ap (λ (h : Option Placement). beginning x h (holder ps x)) before ∙ ap (beginning x o) here

  free_run : (x : ℕ) → holder ps x ≡ None → FreeRun x
  free_run zero free = record {
    from = 0;
    begun_by = omega arith;
    begins = begins_free 0 (holder ps (0 - 1)) refl free;
    none = λ z gt le. absurd (omega arith);
  }
  free_run (suc x) free = by (holder ps x) refl (free_run x)
    where
      back : holder ps (suc x - 1) ≡ holder ps x
      back = ap (holder ps) (let e : suc x - 1 ≡ x = omega arith in e)

      by : (o : Option Placement) → holder ps x ≡ o → (holder ps x ≡ None → FreeRun x) → FreeRun (suc x)
      by (Some p) e run = record {
        from = suc x;
        begun_by = omega arith;
        begins = begins_free (suc x) (Some p) (back ∙ e) free ∙ ap (λ b. cond b (Some (free_element (suc x))) None) (or-true (eqb (suc x) 0));
        none = λ z gt le. absurd (omega arith);
      }
      by None e run =
          let r = run e in
          let off : begins_at ps (suc x) ≡ None = begins_free (suc x) None (back ∙ e) free ∙ ap (λ b. cond (b || false) (Some (free_element (suc x))) None) (false_from_ne_true (eqb (suc x) 0) (λ z. let same = eqb-true (suc x) 0 z in omega arith)) in
          record {
            from = r.from;
            begun_by = let le = r.begun_by in omega arith;
            begins = r.begins;
            none = λ z gt le. elim (cases_lt x z) [
              | inl last ↦ subst (λ (y : ℕ). begins_at ps y ≡ None) (let same : suc x ≡ z = omega arith in same) off
              | inr before ↦ r.none z gt before
            ];
          }

  -- a minislot that is free is all modems', for requests
  pub cell_of_free : (map : Body) (x : ℕ) → map.elements ≡ es → x < len → holder ps x ≡ None → (e : Element) × IsCell map x e × (e.sid ≡ everybody) × (e.iuc ≡ 1)
  cell_of_free map x same lt free =
      let r = free_run x free in
      let le = r.begun_by in (
        free_element r.from,
        cell_from map x (free_element r.from) same le
            (in_row (begins_at ps) (stand_at t span ps a) 0 len (null_element len) rest r.from x (free_element r.from) (omega arith) (omega arith) le (omega arith) r.begins r.none),
        refl,
        refl,
      )
