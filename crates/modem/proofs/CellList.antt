-- The cells of a list of elements, one element after another, and that they are those of the map.
use Rattle.std.proofs.Common.{◌≡◌, ℕ, zero, suc, ◌<◌, ◌≤◌, false, List, [], ◌∷◌, Some, slice_get, refl, sym, ap, ◌∙◌}
use Rattle.std.proofs.Common.{arith, ◌⊎◌, inl, inr}
use Rattle.std.proofs.lemmas.Option.{slice_get_within, same_Some}
use Rattle.std.proofs.lemmas.Bool.{eqb-true, eq-eqb, false_from_ne_true}
use Rattle.map_body.specs.declared.element.Element.{Element}
use Rattle.map_body.specs.declared.head.Head.{Head}
use Rattle.map_body.specs.Body.{Body}
use Rattle.map_body.specs.Rules.{NoNullBefore}
use Rattle.map_body.specs.Intervals.{is_null}
use Rattle.modem.specs.Held.{HasCell}
use Rattle.modem.proofs.Parts.{no_true}

-- the first element covers x, and the second is the next one
pub record Covers (e next : Element) (x sid iuc : ℕ) : Type 0 where
  pub same_sid : e.sid ≡ sid
  pub same_iuc : e.iuc ≡ iuc
  pub from : e.offset ≤ x
  pub to : x < next.offset

-- before the Null, an element of this SID and IUC covers x: from its offset up to the next element's
abbrev pub Cell : List Element → ℕ → ℕ → ℕ → Type 0
Cell [] x sid iuc = ⊥
Cell (e ∷ []) x sid iuc = ⊥
Cell (e ∷ f ∷ es) x sid iuc = (is_null e ≡ false) × (Covers e f x sid iuc ⊎ Cell (f ∷ es) x sid iuc)

-- a list of elements under a head
abbrev map_of : Head → List Element → Body
map_of h es = record { head = h; elements = es }

plain : (e : Element) → (e.iuc ≡ 7 → ⊥) → is_null e ≡ false
plain e no_null = false_from_ne_true (is_null e) (λ is. no_null (eqb-true _ _ is))

not_plain : (e f : Element) → is_null e ≡ false → Some e ≡ Some f → f.iuc ≡ 7 → ⊥
not_plain e f is same null = no_true (sym is ∙ eq-eqb _ _ (ap (λ (d : Element). d.iuc) (same_Some e f same) ∙ null))

-- no Null stands before the second element, where the first is none
first_plain : (h : Head) (e : Element) (es : List Element) → is_null e ≡ false → NoNullBefore (e ∷ es) 1
first_plain h e es is zero lt (f, at, null) = not_plain e f is at null
first_plain h e es is (suc k) lt null = absurd (omega (arith, lt))

-- a cell of the elements after the first is one of all of them, where the first is no Null
later : (h : Head) (e : Element) (es : List Element) (x sid iuc : ℕ) → is_null e ≡ false → HasCell (map_of h es) x sid iuc → HasCell (map_of h (e ∷ es)) x sid iuc
later h e es x sid iuc is (c, cell, same_sid, same_iuc) = (
  c,
  record {
    place = suc cell.place;
    next = cell.next;
    here_is = cell.here_is;
    next_is = cell.next_is;
    before_null = before;
    begun = cell.begun;
    not_ended = cell.not_ended;
  },
  same_sid,
  same_iuc,
)
  where
    before : NoNullBefore (e ∷ es) (suc (suc cell.place))
    before zero lt (f, at, null) = not_plain e f is at null
    before (suc k) lt null = cell.before_null k (omega arith) null

pub cell_in : (h : Head) (es : List Element) (x sid iuc : ℕ) → Cell es x sid iuc → HasCell (map_of h es) x sid iuc
cell_in h [] x sid iuc cell = absurd cell
cell_in h (e ∷ []) x sid iuc cell = absurd cell
cell_in h (e ∷ f ∷ es) x sid iuc cell =
    elim cell.1 [
      | inl covers ↦ (
        e,
        record {
          place = 0;
          next = f;
          here_is = refl;
          next_is = refl;
          before_null = λ k lt null. first_plain h e (f ∷ es) cell.0 k lt null;
          begun = covers.from;
          not_ended = covers.to;
        },
        covers.same_sid,
        covers.same_iuc,
      )
      | inr more ↦ later h e (f ∷ es) x sid iuc cell.0 (cell_in h (f ∷ es) x sid iuc more)
    ]

-- the first element's interval, where the cell begins there
at_first : (e f : Element) (es : List Element) (x sid iuc : ℕ) (c next : Element) → Some c ≡ Some e → Some next ≡ Some f → c.offset ≤ x → x < next.offset → c.sid ≡ sid → c.iuc ≡ iuc → Covers e f x sid iuc
at_first e f es x sid iuc c next here after from to same_sid same_iuc =
    let one : c ≡ e = cc in
    let two : next ≡ f = cc in
    record { same_sid = sym (ap (λ (d : Element). d.sid) one) ∙ same_sid; same_iuc = sym (ap (λ (d : Element). d.iuc) one) ∙ same_iuc; from = rw (← one) from; to = rw (← two) to }

pub cell_of : (h : Head) (es : List Element) (x sid iuc : ℕ) → HasCell (map_of h es) x sid iuc → Cell es x sid iuc
cell_of h es x sid iuc (c, cell, same_sid, same_iuc) = at_place es cell.place cell.here_is cell.next_is cell.before_null
  where
    at_place : (es : List Element) (k : ℕ) → slice_get es k ≡ Some c → slice_get es (suc k) ≡ Some cell.next → NoNullBefore es (suc k) → Cell es x sid iuc
    at_place [] k here next none = absurd (let lt = slice_get_within [] k c here in omega (arith, lt))
    at_place (e ∷ []) zero here next none = absurd (let lt = slice_get_within (e ∷ []) 1 cell.next next in omega (arith, lt))
    at_place (e ∷ []) (suc k) here next none = absurd (let lt = slice_get_within (e ∷ []) (suc k) c here in omega (arith, lt))
    at_place (e ∷ f ∷ es) zero here next none = (plain e (λ null. none 0 (omega arith) (e, refl, null)), inl (at_first e f es x sid iuc c cell.next (sym here) (sym next) cell.begun cell.not_ended same_sid same_iuc))
    at_place (e ∷ f ∷ es) (suc k) here next none = (plain e (λ null. none 0 (omega arith) (e, refl, null)), inr (at_place (f ∷ es) k here next (λ j lt null. none (suc j) (omega arith) null)))
