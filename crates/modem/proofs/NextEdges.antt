-- From one minislot to the next edge nothing differs.
use Rattle.std.proofs.Common.{◌≡◌, ℕ, suc, ◌+◌, ◌-◌, ◌^◌, ◌<◌, ◌≤◌, Bool, true, false, ◌==◌, ◌&&◌, ◌||◌, nat_le, List}
use Rattle.std.proofs.Common.{[], ◌∷◌, map, length, get_or, refl, sym, subst, ap, ◌∙◌, arith, ◌⊎◌, inl, inr, ◌↔◌, take}
use Rattle.std.proofs.Common.{drop, Option, Some, None, IfNone}
use Rattle.std.specs.List.{All, list_any}
use Rattle.std.specs.List.Sorted.{IsNonDecreasingBy}
use Rattle.std.proofs.lemmas.List.{get_or_default, get_or-take, get_or-drop, length-take-le, length-drop}
use Rattle.std.proofs.lemmas.Bool.{cases_lt, and_parts, eqb-true}
use Rattle.std.proofs.lemmas.Bool.Decides.{nat_tests}
use Rattle.modem.proofs.Parts.{at_least}
use Rattle.modem.proofs.Order.{HasAt-found, HasAt-one, HasAt-part, HasAt-slice, first_from, nothing}
use Rattle.modem.specs.declared.kept.KeptInterval.{KeptInterval}
use Rattle.modem.specs.declared.known.OwnLease.{OwnLease}
use Rattle.modem.specs.State.{IsAt, HasAt, is_of, covers}
use Rattle.modem.specs.KeptIntervals.{kept_interval, place, place_of, AreBefore, IsOfChannel}
use Rattle.modem.specs.Idle.{HasSame, CoverSame, IsSameIn}

-- an interval that begins after a minislot begins behind what a later one of its place begins
pub late_starts : (ks : List KeptInterval) (ch m x later : ℕ) (next : KeptInterval) → IsNonDecreasingBy place_of ks → AreBefore (place ch m + 1) later ks → later < length ks → get_or ks later next ≡ next → next.start < 2 ^ 64 → x < 2 ^ 63 → (next.channel ≡ ch → x < next.start) → All (λ k. k.channel ≡ ch → m < k.start → x < k.start) ks
late_starts ks ch m x later next order part within is bound limit first i d lt same begins = by_side (cases_lt i later)
  where
    k : KeptInterval
    k = get_or ks i d

    by_side : (i < later) ⊎ (later ≤ i) → x < k.start
    by_side (inl early) =
        let before = part.before i d (omega arith) early in
        absurd (omega (arith, before, same, begins))
    by_side (inr late) =
        let up : place_of next ≤ place_of k = subst (λ (n : KeptInterval). place_of n ≤ place_of k) is (order_at next) in
        by_channel (cases_lt ch next.channel) up
      where
        order_at : (n : KeptInterval) → place_of (get_or ks later n) ≤ place_of k
        order_at n = subst (λ (o : KeptInterval). place_of o ≤ place_of k) (get_or_default ks later d n within) (order later i d late lt)

        by_channel : (ch < next.channel) ⊎ (next.channel ≤ ch) → place_of next ≤ place_of k → x < k.start
        by_channel (inl above) up = omega (arith, above, up, same, limit)
        by_channel (inr not_above) up =
            let behind = first_from ks (place ch m + 1) later next part within is in
            let one : next.channel ≡ ch = omega (arith, not_above, behind, bound) in
            let soon : x < next.start = first one in
            omega (arith, one, up, same, soon)

-- where none stands behind that minislot
pub no_starts : (ks : List KeptInterval) (ch m x later : ℕ) → AreBefore (place ch m + 1) later ks → length ks ≤ later → All (λ k. k.channel ≡ ch → m < k.start → x < k.start) ks
no_starts ks ch m x later part all i d lt same begins =
    let before = part.before i d (omega arith) (omega (arith, lt, all)) in
    absurd (omega (arith, before, same, begins))

-- where none begins up to x, and none that covers m is over by x
pub HasSame-made : (ks around : List KeptInterval) (ch m x : ℕ) → m ≤ x → ((sid iuc : ℕ) → HasAt (map kept_interval around) ch m sid iuc ↔ HasAt (map kept_interval ks) ch m sid iuc) → ((sid iuc : ℕ) → HasAt (map kept_interval around) ch x sid iuc → HasAt (map kept_interval ks) ch x sid iuc) → All (λ k. k.channel ≡ ch → m < k.start → x < k.start) ks → All (λ k. k.channel ≡ ch → k.start ≤ m → m < k.stop → x < k.stop) around → HasSame (map kept_interval ks) ch m x
HasSame-made ks around ch m x le near within starts stops sid iuc = (back, on)
  where
    back : HasAt (map kept_interval ks) ch x sid iuc → HasAt (map kept_interval ks) ch m sid iuc
    back h =
        let f = HasAt-found ks ch x sid iuc h in
        let from : f.one.start ≤ x = f.at_m.from in
        let to : x < f.one.stop = f.at_m.to in
        let begun : f.one.start ≤ m = by_side f.one (cases_lt m f.one.start) from (subst (λ (k : KeptInterval). k.channel ≡ ch → m < k.start → x < k.start) f.is (starts f.index f.one f.within)) f.at_m.same_channel in
        HasAt-one ks f.index f.one ch m sid iuc f.within f.is (record { same_channel = f.at_m.same_channel; same_sid = f.at_m.same_sid; same_iuc = f.at_m.same_iuc; from = begun; to = omega (arith, to, le) })
      where
        by_side : (k : KeptInterval) → (m < k.start) ⊎ (k.start ≤ m) → k.start ≤ x → (k.channel ≡ ch → m < k.start → x < k.start) → k.channel ≡ ch → k.start ≤ m
        by_side k (inl later) from starts same = absurd (let lt = starts same later in omega (arith, lt, from))
        by_side k (inr begun) from starts same = begun

    on : HasAt (map kept_interval ks) ch m sid iuc → HasAt (map kept_interval ks) ch x sid iuc
    on h =
        let f = HasAt-found around ch m sid iuc ((near sid iuc).1 h) in
        let from : f.one.start ≤ m = f.at_m.from in
        let to : x < f.one.stop = subst (λ (k : KeptInterval). k.channel ≡ ch → k.start ≤ m → m < k.stop → x < k.stop) f.is (stops f.index f.one f.within) f.at_m.same_channel f.at_m.from f.at_m.to in
        within sid iuc (HasAt-one around f.index f.one ch x sid iuc f.within f.is (record { same_channel = f.at_m.same_channel; same_sid = f.at_m.same_sid; same_iuc = f.at_m.same_iuc; from = omega (arith, from, le); to = to }))

-- tests of facts that come to one
le_same : (a b c d : ℕ) → (a ≤ b → c ≤ d) → (c ≤ d → a ≤ b) → nat_le a b ≡ nat_le c d
le_same a b c d on back = grind (arith, nat_tests, on, back)

-- a lease covers minislot x and goes on after it as it does at m
lease_same : (l : OwnLease) (ch sid m x : ℕ) → m ≤ x → IsSameIn ch m x l → (covers ch sid x l ≡ covers ch sid m l) × ((is_of ch sid l && nat_le (x + 1) l.last) ≡ (is_of ch sid l && nat_le (m + 1) l.last))
lease_same l ch sid m x le same = go (is_of ch sid l) refl
  where
    go : (b : Bool) → is_of ch sid l ≡ b → ((b && (nat_le l.first x && nat_le x l.last)) ≡ (b && (nat_le l.first m && nat_le m l.last))) × ((b && nat_le (x + 1) l.last) ≡ (b && nat_le (m + 1) l.last))
    go false e = (refl, refl)
    go true e =
        let s = same (eqb-true _ _ (and_parts (l.channel == ch) (l.sid == sid) e).0) in
        let begun = le_same l.first x l.first m s.0 (λ f. omega (arith, f, le)) in
        let still = le_same x l.last m l.last (λ t. omega (arith, t, le)) s.1 in
        let after = le_same (x + 1) l.last (m + 1) l.last (λ t. omega (arith, t, le)) (λ t. let lt = s.2 (omega (arith, t)) in omega (arith, lt)) in
        (ap (λ b. b && nat_le x l.last) begun ∙ ap (λ b. nat_le l.first m && b) still, after)

-- tests that agree on each element find the same
any_same : (p q : OwnLease → Bool) (ls : List OwnLease) → All (λ l. p l ≡ q l) ls → list_any p ls ≡ list_any q ls
any_same p q [] same = refl
any_same p q (l ∷ ls) same =
    ap (λ b. b || list_any p ls) (same 0 l (omega arith)) ∙ ap (λ b. q l || b) (any_same p q ls (λ i d lt. same (suc i) d (omega (arith, lt))))

pub CoverSame-made : (ls : List OwnLease) (ch m x : ℕ) → m ≤ x → All (IsSameIn ch m x) ls → CoverSame ls ch m x
CoverSame-made ls ch m x le same = record {
  own = λ sid. any_same (covers ch sid x) (covers ch sid m) ls (λ i d lt. (lease_same (get_or ls i d) ch sid m x le (same i d lt)).0);
  lasts = λ sid. any_same (λ l. is_of ch sid l && nat_le (x + 1) l.last) (λ l. is_of ch sid l && nat_le (m + 1) l.last) ls (λ i d lt. (lease_same (get_or ls i d) ch sid m x le (same i d lt)).1);
}

pub if_none : {X : Type 0} (P : Type 0) (r : Option X) → P → IfNone r P
if_none P None h = h
if_none P (Some x) h = tt

-- a place that isn't behind another one has no more before it
pub before_order : (ks : List KeptInterval) (a b n k : ℕ) → a ≤ b → AreBefore a n ks → AreBefore b k ks → n ≤ k
before_order ks a b n k le low high = at_least n k (λ less.
    let below = low.before k nothing (omega arith) less in
    let above = high.from k nothing (omega arith) (omega (arith, less, low.bound)) in
    omega (arith, below, above, le))

-- the part of a list that is a channel's
pub HasAt-of_channel : (ks : List KeptInterval) (ch from to : ℕ) → from ≤ to → AreBefore (place ch 0) from ks → AreBefore (place ch 18446744073709551615 + 1) to ks → IsOfChannel ch (map kept_interval ks) (map kept_interval (take (to - from) (drop from ks)))
HasAt-of_channel ks ch from to order low high at_ch m sid iuc limit = (
  λ h. (one h, subst (λ n. HasAt (map kept_interval ks) n m sid iuc) (one h) (HasAt-part ks from (to - from) at_ch m sid iuc h)),
  λ (e, h). subst (λ n. HasAt (map kept_interval (take (to - from) (drop from ks))) n m sid iuc) (sym e) ((HasAt-slice ks from to ch m sid iuc order high.bound inside).1 h),
)
  where
    one : HasAt (map kept_interval (take (to - from) (drop from ks))) at_ch m sid iuc → at_ch ≡ ch
    one h =
        let f = HasAt-found (take (to - from) (drop from ks)) at_ch m sid iuc h in
        let size = length-take-le (to - from) (drop from ks) (omega (arith, length-drop from ks, high.bound)) in
        let soon : f.index < to - from = omega (arith, size, f.within) in
        let there : get_or ks (from + f.index) f.one ≡ f.one = sym (get_or-drop from ks f.index f.one) ∙ sym (get_or-take (to - from) (drop from ks) f.index f.one soon) ∙ f.is in
        let up : place ch 0 ≤ place_of f.one = subst (λ (k : KeptInterval). place ch 0 ≤ place_of k) there (low.from (from + f.index) f.one (omega arith) (omega (arith, soon, high.bound))) in
        let down : place_of f.one < place ch 18446744073709551615 + 1 = subst (λ (k : KeptInterval). place_of k < place ch 18446744073709551615 + 1) there (high.before (from + f.index) f.one (omega arith) (omega (arith, soon))) in
        omega (arith, up, down, f.at_m.same_channel, f.at_m.from, limit)

    inside : (i : ℕ) (k : KeptInterval) → i < length ks → get_or ks i k ≡ k → IsAt (kept_interval k) ch m sid iuc → (from ≤ i) × (i < to)
    inside i k lt is x = (
      at_least from i (λ early.
          let down : place_of k < place ch 0 = subst (λ (j : KeptInterval). place_of j < place ch 0) is (low.before i k (omega arith) early) in
          omega (arith, down, x.same_channel)),
      at_least (suc i) to (λ behind.
          let up : place ch 18446744073709551615 + 1 ≤ place_of k = subst (λ (j : KeptInterval). place ch 18446744073709551615 + 1 ≤ place_of j) is (high.from i k (omega (arith, behind)) lt) in
          omega (arith, up, x.same_channel, x.from, limit)),
    )
