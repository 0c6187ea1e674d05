-- The first Null, its place, and what stands behind it.
use Rattle.std.proofs.Common.{◌≡◌, ℕ, zero, suc, true, false, List, [], ◌∷◌, drop, Option, Some, None, refl, ap, ◌∙◌}
use Rattle.std.proofs.Common.{arith, slice_get}
use Rattle.std.specs.Prelude.{if◌then◌else◌}
use Rattle.std.proofs.lemmas.Bool.Decides.{Decides-eqb}
use Rattle.std.proofs.lemmas.Bool.{false_from_ne_true}
use Rattle.map_body.specs.declared.element.Element.{Element}
use Rattle.map_body.specs.declared.interval.Interval.{Interval}
use Rattle.map_body.specs.Rules.{IsNull, IsFirstNull}
use Rattle.map_body.specs.Intervals.{is_null, intervals, null_offset, after_null}

-- the intervals from the element before on, if there is one
abbrev pub intervals_behind : Option Element → List Element → List Interval
intervals_behind None es = intervals es
intervals_behind (Some e) es = intervals (e ∷ es)

null_is : (e : Element) (es : List Element) → IsNull (e ∷ es) 0 → is_null e ≡ true
null_is e es h = (Decides-eqb e.iuc 7).1 (let same : e ≡ h.0 = cc in ap (λ (d : Element). d.iuc) same ∙ h.2)

null_isnt : (e : Element) (es : List Element) → ¬ IsNull (e ∷ es) 0 → is_null e ≡ false
null_isnt e es h = false_from_ne_true (is_null e) (λ on. h (e, refl, (Decides-eqb e.iuc 7).0 on))

-- the first Null of a list whose first element is none
first_behind : (e : Element) (es : List Element) (k : ℕ) → IsFirstNull (e ∷ es) (suc k) → IsFirstNull es k
first_behind e es k h = (h.0, λ j lt null. h.1 (suc j) (omega arith) null)

pub null_offset_at : (es : List Element) (k : ℕ) (e : Element) → IsFirstNull es k → slice_get es k ≡ Some e → null_offset es ≡ Some e.offset
null_offset_at [] k e h p = cc
null_offset_at (d ∷ es) zero e h p =
    let same : d ≡ e = cc in
    ap (λ b. if b then Some d.offset else null_offset es) (null_is d es h.0) ∙ ap (λ (x : Element). Some x.offset) same
null_offset_at (d ∷ es) (suc k) e h p =
    ap (λ b. if b then Some d.offset else null_offset es) (null_isnt d es (h.1 0 (omega arith))) ∙ null_offset_at es k e (first_behind d es k h) p

pub after_null_at : (es : List Element) (k : ℕ) → IsFirstNull es k → after_null es ≡ drop (suc k) es
after_null_at [] k h = let none : slice_get [] k ≡ Some h.0.0 = h.0.1 in cc
after_null_at (d ∷ es) zero h = ap (λ b. if b then es else after_null es) (null_is d es h.0)
after_null_at (d ∷ es) (suc k) h = ap (λ b. if b then es else after_null es) (null_isnt d es (h.1 0 (omega arith))) ∙ after_null_at es k (first_behind d es k h)
