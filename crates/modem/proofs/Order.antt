-- Kept intervals in order: what is found among them, added and let go.
use Rattle.std.proofs.Common.{◌≡◌, ℕ, zero, suc, ◌+◌, ◌-◌, ◌<◌, ◌≤◌, true, false, not, ◌==◌, ◌&&◌, if◌then◌else◌}
use Rattle.std.proofs.Common.{nat_lt, List, [], ◌∷◌, ◌++◌, length, take, drop, map, get_or, refl, sym, subst, ap, ◌∙◌}
use Rattle.std.proofs.Common.{arith, ◌⊎◌, inl, inr, ◌↔◌, Result, Ok, Err, IsOk}
use Rattle.std.specs.List.{AllWithin, insert}
use Rattle.std.specs.Result.{is_ok}
use Rattle.std.specs.List.Sorted.{IsNonDecreasingBy}
use Rattle.std.proofs.lemmas.Bool.{cases_lt, eqb-true, or_parts, not-false}
use Rattle.std.proofs.lemmas.Bool.Decides.{nat_tests}
use Rattle.std.proofs.lemmas.List.{map-append, take-append-drop, get_or-take, get_or-drop, length-take-le, length-drop}
use Rattle.std.proofs.lemmas.List.{get_or_default}
use Rattle.std.proofs.lemmas.List.Elements.{All-append, All-cons, All-take, All-drop}
use Rattle.std.proofs.lemmas.List.Sorted.{IsNonDecreasingBy-insert}
use Rattle.modem.proofs.Parts.{no_true}
use Rattle.modem.proofs.Tests.{equal_tells}
use Rattle.modem.proofs.AtKept.{HasAt-append}
use Rattle.modem.specs.declared.kept.KeptInterval.{KeptInterval}
use Rattle.modem.specs.State.{Kept, IsAt, HasAt}
use Rattle.modem.specs.KeptIntervals.{kept_interval, place_of, IsShort, AreKept, AreBefore, is_live}

-- what is at a minislot stands at an index
pub record Found (ks : List KeptInterval) (ch m sid iuc : ℕ) : Type 0 where
  pub index : ℕ
  pub one : KeptInterval
  pub within : index < length ks
  pub is : get_or ks index one ≡ one
  pub at_m : IsAt (kept_interval one) ch m sid iuc

pub HasAt-found : (ks : List KeptInterval) (ch m sid iuc : ℕ) → HasAt (map kept_interval ks) ch m sid iuc → Found ks ch m sid iuc
HasAt-found [] ch m sid iuc h = absurd h
HasAt-found (k ∷ ks) ch m sid iuc h =
    elim h [
      | inl x ↦ record { index = 0; one = k; within = omega arith; is = refl; at_m = x }
      | inr y ↦ let f = HasAt-found ks ch m sid iuc y in record { index = suc f.index; one = f.one; within = omega (arith, f.within); is = f.is; at_m = f.at_m }
    ]

-- what stands at an index is there
pub HasAt-one : (ks : List KeptInterval) (i : ℕ) (k : KeptInterval) (ch m sid iuc : ℕ) → i < length ks → get_or ks i k ≡ k → IsAt (kept_interval k) ch m sid iuc → HasAt (map kept_interval ks) ch m sid iuc
HasAt-one [] i k ch m sid iuc lt e x = absurd (omega (arith, lt))
HasAt-one (j ∷ ks) zero k ch m sid iuc lt e x = inl (subst (λ (o : KeptInterval). IsAt (kept_interval o) ch m sid iuc) (sym e) x)
HasAt-one (j ∷ ks) (suc i) k ch m sid iuc lt e x = inr (HasAt-one ks i k ch m sid iuc (omega (arith, lt)) e x)

-- an interval without minislots
pub nothing : KeptInterval
nothing = record { channel = 0; sid = 0; iuc = 0; start = 0; stop = 0 }

-- two lists one after the other
pub HasAt-joined : (xs ys : List KeptInterval) (ch m sid iuc : ℕ) → HasAt (map kept_interval (xs ++ ys)) ch m sid iuc ↔ (HasAt (map kept_interval xs) ch m sid iuc ⊎ HasAt (map kept_interval ys) ch m sid iuc)
HasAt-joined xs ys ch m sid iuc =
    subst (λ (ks : List Kept). HasAt ks ch m sid iuc ↔ (HasAt (map kept_interval xs) ch m sid iuc ⊎ HasAt (map kept_interval ys) ch m sid iuc)) (sym (map-append kept_interval xs ys)) (HasAt-append (map kept_interval xs) (map kept_interval ys) ch m sid iuc)

-- the two parts of a list
pub HasAt-split : (i : ℕ) (ks : List KeptInterval) (ch m sid iuc : ℕ) → HasAt (map kept_interval ks) ch m sid iuc ↔ (HasAt (map kept_interval (take i ks)) ch m sid iuc ⊎ HasAt (map kept_interval (drop i ks)) ch m sid iuc)
HasAt-split i ks ch m sid iuc =
    subst (λ (all : List KeptInterval). HasAt (map kept_interval all) ch m sid iuc ↔ (HasAt (map kept_interval (take i ks)) ch m sid iuc ⊎ HasAt (map kept_interval (drop i ks)) ch m sid iuc)) (take-append-drop i ks) (HasAt-joined (take i ks) (drop i ks) ch m sid iuc)

-- what a part of a list has, the list has
pub HasAt-part : (ks : List KeptInterval) (before count ch m sid iuc : ℕ) → HasAt (map kept_interval (take count (drop before ks))) ch m sid iuc → HasAt (map kept_interval ks) ch m sid iuc
HasAt-part ks before count ch m sid iuc h =
    (HasAt-split before ks ch m sid iuc).1 (inr ((HasAt-split count (drop before ks) ch m sid iuc).1 (inl h)))

-- one of those up to a place, or from one on
HasAt-take : (ks : List KeptInterval) (n ch m sid iuc i : ℕ) (k : KeptInterval) → n ≤ length ks → i < n → get_or ks i k ≡ k → IsAt (kept_interval k) ch m sid iuc → HasAt (map kept_interval (take n ks)) ch m sid iuc
HasAt-take ks n ch m sid iuc i k le lt is x =
    HasAt-one (take n ks) i k ch m sid iuc (omega (arith, length-take-le n ks le, lt)) (get_or-take n ks i k lt ∙ is) x

in_drop : (ks : List KeptInterval) (n i : ℕ) (k : KeptInterval) → n ≤ i → get_or ks i k ≡ k → get_or (drop n ks) (i - n) k ≡ k
in_drop ks n i k le is =
    let same : n + (i - n) ≡ i = omega (arith, le) in
    get_or-drop n ks (i - n) k ∙ ap (λ j. get_or ks j k) same ∙ is

-- a part of a list has what the list has where none of the others is
pub HasAt-slice : (ks : List KeptInterval) (from to ch m sid iuc : ℕ) → from ≤ to → to ≤ length ks → ((i : ℕ) (k : KeptInterval) → i < length ks → get_or ks i k ≡ k → IsAt (kept_interval k) ch m sid iuc → (from ≤ i) × (i < to)) → HasAt (map kept_interval (take (to - from) (drop from ks))) ch m sid iuc ↔ HasAt (map kept_interval ks) ch m sid iuc
HasAt-slice ks from to ch m sid iuc order bound inside = (HasAt-part ks from (to - from) ch m sid iuc, within)
  where
    within : HasAt (map kept_interval ks) ch m sid iuc → HasAt (map kept_interval (take (to - from) (drop from ks))) ch m sid iuc
    within h =
        let f = HasAt-found ks ch m sid iuc h in
        let here = inside f.index f.one f.within f.is f.at_m in
        HasAt-take (drop from ks) (to - from) ch m sid iuc (f.index - from) f.one (omega (arith, length-drop from ks, bound)) (omega (arith, here.0, here.1)) (in_drop ks from f.index f.one here.0 f.is) f.at_m

-- a run of ended ones may go
pub HasAt-cut : (ks : List KeptInterval) (from to ch clock at_ch m sid iuc : ℕ) → from ≤ to → to ≤ length ks → AllWithin (λ k. is_live ch clock k ≡ false) ks from to → (ch ≡ at_ch → clock ≤ m) → HasAt (map kept_interval (take from ks ++ drop to ks)) at_ch m sid iuc ↔ HasAt (map kept_interval ks) at_ch m sid iuc
HasAt-cut ks from to ch clock at_ch m sid iuc order bound ended late = (
  λ h. elim (joined.0 h) [ inl a ↦ (HasAt-split from ks at_ch m sid iuc).1 (inl a) | inr b ↦ (HasAt-split to ks at_ch m sid iuc).1 (inr b) ],
  λ h. let f = HasAt-found ks at_ch m sid iuc h in stays f.index f.one f.within f.is f.at_m (cases_lt f.index from) (cases_lt f.index to),
)
  where
    joined : HasAt (map kept_interval (take from ks ++ drop to ks)) at_ch m sid iuc ↔ (HasAt (map kept_interval (take from ks)) at_ch m sid iuc ⊎ HasAt (map kept_interval (drop to ks)) at_ch m sid iuc)
    joined = HasAt-joined (take from ks) (drop to ks) at_ch m sid iuc

    over : (k : KeptInterval) → is_live ch clock k ≡ false → IsAt (kept_interval k) at_ch m sid iuc → ⊥
    over k gone x =
        let parts = or_parts (not (k.channel == ch)) (nat_lt clock k.stop) gone in
        let same : k.channel ≡ ch = eqb-true _ _ (not-false _ parts.0) in
        let past : nat_lt clock k.stop ≡ false = parts.1 in
        let stopped : k.stop ≤ clock = grind (arith, nat_tests) in
        let now : clock ≤ m = late (sym same ∙ x.same_channel) in
        omega (arith, x.to)

    stays : (i : ℕ) (k : KeptInterval) → i < length ks → get_or ks i k ≡ k → IsAt (kept_interval k) at_ch m sid iuc → (i < from) ⊎ (from ≤ i) → (i < to) ⊎ (to ≤ i) → HasAt (map kept_interval (take from ks ++ drop to ks)) at_ch m sid iuc
    stays i k lt is x (inl early) side = joined.1 (inl (HasAt-take ks from at_ch m sid iuc i k (omega (arith, order, bound)) early is x))
    stays i k lt is x (inr after) (inl soon) = absurd (over k (subst (λ (o : KeptInterval). is_live ch clock o ≡ false) is (ended i k after soon)) x)
    stays i k lt is x (inr after) (inr behind) = joined.1 (inr (HasAt-one (drop to ks) (i - to) k at_ch m sid iuc (omega (arith, length-drop to ks, lt, behind)) (in_drop ks to i k behind is) x))

-- where the last one stands before a place, all do
pub all_before : (ks : List KeptInterval) (limit : ℕ) (last : KeptInterval) → IsNonDecreasingBy place_of ks → 0 < length ks → get_or ks (length ks - 1) last ≡ last → place_of last < limit → AreBefore limit (length ks) ks
all_before ks limit last up some is below = record {
  bound = omega arith;
  before = λ i d from lt.
      let end : get_or ks (length ks - 1) d ≡ last = get_or_default ks (length ks - 1) d last (omega (arith, some)) ∙ is in
      let to : place_of (get_or ks i d) ≤ place_of last = subst (λ (k : KeptInterval). place_of (get_or ks i d) ≤ place_of k) end (up i (length ks - 1) d (omega (arith, lt)) (omega (arith, some))) in
      omega (arith, to, below);
  from = λ i d from lt. absurd (omega (arith, from, lt));
}

-- up to the first that doesn't stand before a place
pub AreBefore-at : (ks : List KeptInterval) (limit n : ℕ) (k : KeptInterval) → IsNonDecreasingBy place_of ks → AllWithin (λ k. place_of k < limit) ks 0 n → n < length ks → get_or ks n k ≡ k → limit ≤ place_of k → AreBefore limit n ks
AreBefore-at ks limit n k up low within is from = record {
  bound = omega (arith, within);
  before = low;
  from = λ i d late lt.
      let here : get_or ks n d ≡ k = get_or_default ks n d k within ∙ is in
      let on : place_of k ≤ place_of (get_or ks i d) = subst (λ (o : KeptInterval). place_of o ≤ place_of (get_or ks i d)) here (up n i d late lt) in
      omega (arith, on, from);
}

-- the first that doesn't
pub first_from : (ks : List KeptInterval) (limit n : ℕ) (k : KeptInterval) → AreBefore limit n ks → n < length ks → get_or ks n k ≡ k → limit ≤ place_of k
first_from ks limit n k h lt is = subst (λ (o : KeptInterval). limit ≤ place_of o) is (h.from n k (omega arith) lt)

-- with one more at its place
pub AreKept-insert : (ks : List KeptInterval) (i : ℕ) (k : KeptInterval) → AreKept ks → IsShort k → AreBefore (place_of k + 1) i ks → AreKept (insert ks i k)
AreKept-insert ks i k h short part = record {
  ordered = IsNonDecreasingBy-insert place_of ks i k h.ordered part.bound (λ j d lt. let low = part.before j d (omega arith) lt in omega (arith, low)) (λ j d from lt. let high = part.from j d from lt in omega (arith, high));
  short = All-append IsShort (take i ks) (k ∷ drop i ks) (All-take IsShort i ks h.short) (All-cons IsShort k (drop i ks) short (All-drop IsShort i ks h.short));
}

pub HasAt-insert : (ks : List KeptInterval) (i : ℕ) (k : KeptInterval) (ch m sid iuc : ℕ) → HasAt (map kept_interval (insert ks i k)) ch m sid iuc ↔ (HasAt (map kept_interval ks) ch m sid iuc ⊎ IsAt (kept_interval k) ch m sid iuc)
HasAt-insert ks i k ch m sid iuc =
    let joined = HasAt-joined (take i ks) (k ∷ drop i ks) ch m sid iuc in
    let whole = HasAt-split i ks ch m sid iuc in (
      λ h. elim (joined.0 h) [ inl a ↦ inl (whole.1 (inl a)) | inr b ↦ elim b [ inl x ↦ inr x | inr y ↦ inl (whole.1 (inr y)) ] ],
      λ h. elim h [ inl a ↦ elim (whole.0 a) [ inl x ↦ joined.1 (inl x) | inr y ↦ joined.1 (inr (inr y)) ] | inr b ↦ joined.1 (inr (inl b)) ],
    )

-- with one more of a map's intervals
pub HasAt-one_more : (was now next : List KeptInterval) (is : List KeptInterval) (k : KeptInterval) (ch m sid iuc : ℕ) → (HasAt (map kept_interval now) ch m sid iuc ↔ (HasAt (map kept_interval was) ch m sid iuc ⊎ HasAt (map kept_interval is) ch m sid iuc)) → (HasAt (map kept_interval next) ch m sid iuc ↔ (HasAt (map kept_interval now) ch m sid iuc ⊎ IsAt (kept_interval k) ch m sid iuc)) → HasAt (map kept_interval next) ch m sid iuc ↔ (HasAt (map kept_interval was) ch m sid iuc ⊎ HasAt (map kept_interval (is ++ k ∷ [])) ch m sid iuc)
HasAt-one_more was now next is k ch m sid iuc so_far one =
    let joined = HasAt-joined is (k ∷ []) ch m sid iuc in (
      λ h. elim (one.0 h) [ inl a ↦ elim (so_far.0 a) [ inl x ↦ inl x | inr y ↦ inr (joined.1 (inl y)) ] | inr b ↦ inr (joined.1 (inr (inl b))) ],
      λ h. elim h [ inl a ↦ one.1 (inl (so_far.1 (inl a))) | inr b ↦ elim (joined.0 b) [ inl x ↦ one.1 (inl (so_far.1 (inr x))) | inr y ↦ elim y [ inl z ↦ one.1 (inr z) | inr n ↦ absurd n ] ] ],
    )

-- equal in each field
pub IsAt-equal : (a b : KeptInterval) (ch m sid iuc : ℕ) → ((a.channel == b.channel) && ((a.sid == b.sid) && ((a.iuc == b.iuc) && ((a.start == b.start) && (a.stop == b.stop))))) ≡ true → IsAt (kept_interval b) ch m sid iuc → IsAt (kept_interval a) ch m sid iuc
IsAt-equal a b ch m sid iuc same x =
    let (channel, of_sid, of_iuc, start, stop) = equal_tells a.channel b.channel a.sid b.sid a.iuc b.iuc a.start b.start a.stop b.stop same in
    record { same_channel = channel ∙ x.same_channel; same_sid = of_sid ∙ x.same_sid; same_iuc = of_iuc ∙ x.same_iuc; from = omega (arith, start, x.from); to = omega (arith, stop, x.to) }

-- the list after an insert that found room
pub inserted : {A E : Type 0} (r : Result A E) (with without now : List KeptInterval) → IsOk r → now ≡ (if is_ok r then with else without) → now ≡ with
inserted (Ok a) with without now ok is = is
inserted (Err e) with without now ok is = no_true ok
