-- What is past, and where a look at a minislot finds its intervals.
use Rattle.std.proofs.Common.{◌≡◌, ℕ, suc, ◌+◌, ◌-◌, ◌*◌, ◌/◌, ◌^◌, ◌<◌, ◌≤◌, true, ◌||◌, nat_le, nat_lt, leb, List, []}
use Rattle.std.proofs.Common.{◌∷◌, refl, take, drop, map, get_or, subst, ◌∙◌, ap, arith, ◌⊎◌, inl, inr, ◌↔◌}
use Rattle.std.proofs.Math.Nat.{mul-le-mul_left, div-mul-le_self}
use Rattle.std.proofs.lemmas.Bool.{cases_lt, leb-true, le-leb, and_parts, and_from, or_cases, or_left, or_right}
use Rattle.std.proofs.lemmas.Bool.Decides.{nat_tests}
use Rattle.modem.proofs.Parts.{at_least}
use Rattle.modem.proofs.Order.{HasAt-slice}
use Rattle.modem.specs.declared.kept.KeptInterval.{KeptInterval}
use Rattle.modem.specs.State.{Kept, HasAt}
use Rattle.modem.specs.KeptIntervals.{kept_interval, place, place_of, AreKept, AreBefore, is_past, ArePast, ArePastOf}
use Rattle.modem.specs.KeptIntervals.{IsWindow}
use Rattle.modem.specs.declared.kept.Window.{Window}

-- what the test says of an interval
pub record IsPast (ch m : ℕ) (k : KeptInterval) : Type 0 where
  pub begun : place_of k ≤ place ch m
  pub over : (k.channel < ch) ⊎ (k.stop ≤ m)

pub past_is : (ch m : ℕ) (k : KeptInterval) → is_past ch m k ≡ true → IsPast ch m k
past_is ch m k t =
    let parts = and_parts (leb (place_of k) (place ch m)) (nat_lt k.channel ch || nat_le k.stop m) t in
    record {
      begun = leb-true _ _ parts.0;
      over = elim (or_cases (nat_lt k.channel ch) (nat_le k.stop m) parts.1) [ inl low ↦ inl (below low) | inr ended ↦ inr (by ended) ];
    }
  where
    below : nat_lt k.channel ch ≡ true → k.channel < ch
    below low = grind (arith, nat_tests)

    by : nat_le k.stop m ≡ true → k.stop ≤ m
    by ended = grind (arith, nat_tests)

pub is_so_past : (ch m : ℕ) (k : KeptInterval) → IsPast ch m k → is_past ch m k ≡ true
is_so_past ch m k h = and_from _ _ (le-leb _ _ h.begun) (elim h.over [ inl low ↦ or_left _ _ (below low) | inr ended ↦ or_right _ _ (by ended) ])
  where
    below : k.channel < ch → nat_lt k.channel ch ≡ true
    below low = grind (arith, nat_tests)

    by : k.stop ≤ m → nat_le k.stop m ≡ true
    by ended = grind (arith, nat_tests)

-- none of the first are past
pub none_past : (ch m : ℕ) (ks : List KeptInterval) → ArePast ch m 0 ks
none_past ch m ks = record { bound = omega arith; past = λ i d from before. absurd (omega (arith, before)) }

-- what is past stays so
pub still_past : (ch m x count : ℕ) (ks : List KeptInterval) → m ≤ x → ArePast ch m count ks → ArePast ch x count ks
still_past ch m x count ks le h = record {
  bound = h.bound;
  past = λ i d from before. still (get_or ks i d) (past_is ch m (get_or ks i d) (h.past i d from before));
}
  where
    still : (k : KeptInterval) → IsPast ch m k → is_past ch x k ≡ true
    still k p =
        let begun : place_of k ≤ place ch m = p.begun in
        is_so_past ch x k (record { begun = omega (arith, begun, le); over = elim p.over [ inl low ↦ inl low | inr ended ↦ inr (omega (arith, ended, le)) ] })

-- those that stand before the first place that reaches a minislot are past there
pub long_past : (ks : List KeptInterval) (n ch m : ℕ) → AreKept ks → AreBefore (place ch (m - 16383)) n ks → ArePast ch m n ks
long_past ks n ch m kept early = record { bound = early.bound; past = past }
  where
    past : (i : ℕ) (d : KeptInterval) → 0 ≤ i → i < n → is_past ch m (get_or ks i d) ≡ true
    past i d from before =
        let k : KeptInterval = get_or ks i d in
        let low : place_of k < place ch (m - 16383) = early.before i d from before in
        let short : k.stop < k.start + 2 ^ 14 = kept.short i d (omega (arith, before, early.bound)) in
        is_so_past ch m k (record { begun = omega (arith, low); over = by_channel k low short (cases_lt k.channel ch) })
      where
        by_channel : (k : KeptInterval) → place_of k < place ch (m - 16383) → k.stop < k.start + 2 ^ 14 → (k.channel < ch) ⊎ (ch ≤ k.channel) → (k.channel < ch) ⊎ (k.stop ≤ m)
        by_channel k low short (inl lower) = inl lower
        by_channel k low short (inr not_lower) = inr (omega (arith, low, short, not_lower))

-- those of a window have what all have at the minislot
pub HasAt-window : (ks : List KeptInterval) (w : Window) (ch m : ℕ) → IsWindow ch m ks w → (sid iuc : ℕ) → HasAt (map kept_interval (take (w.begun - w.past) (drop w.past ks))) ch m sid iuc ↔ HasAt (map kept_interval ks) ch m sid iuc
HasAt-window ks w ch m h sid iuc = HasAt-slice ks w.past w.begun ch m sid iuc h.order h.begun.bound (λ i k lt is x. (
  at_least w.past i (λ early.
      let p = past_is ch m k (subst (λ (j : KeptInterval). is_past ch m j ≡ true) is (h.past.past i k (omega arith) early)) in
      elim p.over [ inl low ↦ omega (arith, low, x.same_channel) | inr ended ↦ omega (arith, ended, x.to) ]),
  at_least (suc i) w.begun (λ behind.
      let after : place ch m + 1 ≤ place_of k = subst (λ (j : KeptInterval). place ch m + 1 ≤ place_of j) is (h.begun.from i k (omega (arith, behind)) lt) in
      omega (arith, after, x.same_channel, x.from)),
))

-- a channel's share of half of a list
pub share : (len channels : ℕ) → 2 * (channels + 1) * (len / 2 / (channels + 1)) ≤ len
share len channels =
    let half : ℕ = len / 2 in
    let a : half / (channels + 1) * (channels + 1) ≤ half = div-mul-le_self half (channels + 1) in
    let b : half * 2 ≤ len = div-mul-le_self len 2 in
    let c : 2 * (half / (channels + 1) * (channels + 1)) ≤ 2 * half = mul-le-mul_left 2 a in
    grind arith

pub no_more : (len channels : ℕ) → len / 2 / (channels + 1) ≤ len
no_more len channels =
    let q : ℕ = len / 2 / (channels + 1) in
    let all : 2 * (channels + 1) * q ≤ len = share len channels in
    let one : q * 1 ≤ q * (2 * (channels + 1)) = mul-le-mul_left q (omega arith) in
    omega (arith, all, one)

-- the interval of what contracts see of it
abbrev seen_interval : Kept → KeptInterval
seen_interval k = record { channel = k.channel; sid = k.sid; iuc = k.iuc; start = k.start; stop = k.«end» }

-- intervals are known from what contracts see of them
pub same_intervals : (xs ys : List KeptInterval) → map kept_interval xs ≡ map kept_interval ys → xs ≡ ys
same_intervals [] [] same = refl
same_intervals [] (y ∷ ys) same = absurd (let e = same in cc)
same_intervals (x ∷ xs) [] same = absurd (let e = same in cc)
same_intervals (x ∷ xs) (y ∷ ys) same =
    let first : kept_interval x ≡ kept_interval y = (let e = same in cc) in
    let rest : map kept_interval xs ≡ map kept_interval ys = (let e = same in cc) in
    let one : x ≡ y = ap seen_interval first in
    let more : xs ≡ ys = same_intervals xs ys rest in
    ap (λ k. k ∷ xs) one ∙ ap (λ ks. y ∷ ks) more

-- what is past stays so, of intervals as contracts see them
pub still_past_of : (ch m x count : ℕ) (kept : List Kept) → m ≤ x → ((ks : List KeptInterval) → map kept_interval ks ≡ kept → ArePast ch m count ks) → ArePastOf ch x count kept
still_past_of ch m x count kept le past = λ ks same. still_past ch m x count ks le (past ks same)
