-- Kept intervals that are old: how many, and that none is left.
use Rattle.std.proofs.Common.{◌≡◌, ℕ, zero, suc, ◌+◌, ◌-◌, ◌*◌, ◌/◌, ◌^◌, ◌<◌, ◌≤◌, Bool, true, false, cond, not, ◌==◌}
use Rattle.std.proofs.Common.{◌&&◌, nat_lt, nat_le, List, [], ◌∷◌, ◌++◌, Some, length, take, drop, map, get_or, refl}
use Rattle.std.proofs.Common.{sym, subst, ◌∙◌, ap, arith, ◌⊎◌, inl, inr}
use Rattle.std.specs.List.{AllWithin, filter}
use Rattle.std.proofs.Math.Nat.{mul-le-mul_left, div-mul-le_self}
use Rattle.std.proofs.lemmas.Bool.{cases_lt, and_parts, or_cases, eqb-true, eq-eqb}
use Rattle.std.proofs.lemmas.Bool.Decides.{nat_tests}
use Rattle.std.proofs.lemmas.Grind.{common_steps}
use Rattle.std.proofs.lemmas.List.{length-map, get_or-take, get_or-drop, length-take-le, get_or_append_left}
use Rattle.std.proofs.lemmas.List.{get_or-append_right}
use Rattle.modem.proofs.Parts.{no_true, at_least}
use Rattle.modem.proofs.Order.{nothing}
use Rattle.modem.proofs.Clocks.{clock_of-placed, found_id}
use Rattle.modem.specs.declared.known.Channel.{Channel}
use Rattle.modem.specs.declared.kept.KeptInterval.{KeptInterval}
use Rattle.modem.specs.State.{State, Kept, channel_of, clock_of, with_channel}
use Rattle.modem.specs.KeptIntervals.{kept_interval, place, place_of, AreKept, AreBefore, is_live}
use Rattle.modem.specs.LetsGo.{old_intervals, HasNoOld, HasFewOld}

with_first : (b : Bool) (x : Kept) (xs : List Kept) (n : ℕ) → (b ≡ true → suc (length xs) ≤ n) → length xs ≤ n → length (cond b (x ∷ xs) xs) ≤ n
with_first true x xs n one rest = one refl
with_first false x xs n one rest = rest

-- a test that only intervals at n places from a on pass is passed by n at most
few_pass : (q : Kept → Bool) (d : KeptInterval) (ks : List KeptInterval) (a n : ℕ) → ((i : ℕ) → i < length ks → q (kept_interval (get_or ks i d)) ≡ true → (a ≤ i) × (i < a + n)) → length (filter q (map kept_interval ks)) ≤ n
few_pass q d [] a n only = omega arith
few_pass q d (k ∷ ks) zero zero only =
    with_first (q (kept_interval k)) (kept_interval k) (filter q (map kept_interval ks)) 0
    (λ t. let o = only 0 (omega arith) t in absurd (omega (arith, o.1)))
    (few_pass q d ks 0 0 (λ i lt t. let o = only (suc i) (omega (arith, lt)) t in absurd (omega (arith, o.1))))
few_pass q d (k ∷ ks) zero (suc n) only =
    let rest = few_pass q d ks 0 n (λ i lt t. let o = only (suc i) (omega (arith, lt)) t in (omega arith, omega (arith, o.1))) in
    with_first (q (kept_interval k)) (kept_interval k) (filter q (map kept_interval ks)) (suc n) (λ t. omega (arith, rest)) (omega (arith, rest))
few_pass q d (k ∷ ks) (suc a) n only =
    with_first (q (kept_interval k)) (kept_interval k) (filter q (map kept_interval ks)) n
    (λ t. let o = only 0 (omega arith) t in absurd (omega (arith, o.0)))
    (few_pass q d ks a n (λ i lt t. let o = only (suc i) (omega (arith, lt)) t in (omega (arith, o.0), omega (arith, o.1))))

none_pass : (ks : List Kept) → length ks ≤ 0 → ks ≡ []
none_pass [] h = refl
none_pass (k ∷ ks) h = absurd (omega (arith, h))

-- what the test says of an interval
record IsOld (ch clock : ℕ) (k : KeptInterval) : Type 0 where
  same : k.channel ≡ ch
  old : k.start + 16384 ≤ clock

is_old : (ch clock : ℕ) (k : KeptInterval) → ((k.channel == ch) && nat_le (k.start + 2 ^ 14) clock) ≡ true → IsOld ch clock k
is_old ch clock k t =
    let parts = and_parts (k.channel == ch) (nat_le (k.start + 2 ^ 14) clock) t in
    let late : nat_le (k.start + 16384) clock ≡ true = parts.1 in
    record { same = eqb-true _ _ parts.0; old = grind (arith, nat_tests) }

-- the old ones stand behind those of lower channels and before those that began later
pub few_old : (ks : List KeptInterval) (ch clock from until : ℕ) → AreBefore (place ch 0) from ks → AllWithin (λ k. place ch (clock - 16383) ≤ place_of k) ks until (length ks) → length (old_intervals ch clock (map kept_interval ks)) ≤ until - from
few_old ks ch clock from until low high = few_pass (λ k. (k.channel == ch) && nat_le (k.start + 2 ^ 14) clock) nothing ks from (until - from) only
  where
    only : (i : ℕ) → i < length ks → (((get_or ks i nothing).channel == ch) && nat_le ((get_or ks i nothing).start + 2 ^ 14) clock) ≡ true → (from ≤ i) × (i < from + (until - from))
    only i lt t =
        let here = is_old ch clock (get_or ks i nothing) t in
        let first = at_least from i (λ early. let below = low.before i nothing (omega arith) early in omega (arith, below, here.same)) in
        let last = at_least (suc i) until (λ late. let above = high i nothing (omega (arith, late)) lt in omega (arith, above, here.same, here.old)) in
        (first, omega (arith, first, last))

-- a run of ended ones that goes up to one that hasn't ended leaves none that is old
pub none_old : (ks : List KeptInterval) (ch clock t from to : ℕ) → clock < 2 ^ 64 → t ≤ clock + 1 → AreKept ks → AreBefore (place ch 0) from ks → from ≤ to → to ≤ length ks → ((d : KeptInterval) → to < length ks → (is_live ch clock (get_or ks to d) ≡ true) × ((get_or ks to d).start < 2 ^ 64)) → old_intervals ch t (map kept_interval (take from ks ++ drop to ks)) ≡ []
none_old ks ch clock t from to range soon kept low order within next = none_pass _ (few_pass (λ k. (k.channel == ch) && nat_le (k.start + 2 ^ 14) t) nothing left 0 0 (λ i lt is. absurd (none i lt (is_old ch t (get_or left i nothing) is) (cases_lt i from))))
  where
    left : List KeptInterval
    left = take from ks ++ drop to ks

    front : length (take from ks) ≡ from
    front = length-take-le from ks low.bound

    size : length left ≤ from + (length ks - to)
    size = grind (arith, common_steps)

    none : (i : ℕ) → i < length left → IsOld ch t (get_or left i nothing) → (i < from) ⊎ (from ≤ i) → ⊥
    none i lt old (inl early) =
        let here : get_or left i nothing ≡ get_or ks i nothing = get_or_append_left (take from ks) (drop to ks) nothing i (omega (arith, front, early)) ∙ get_or-take from ks i nothing early in
        let below = low.before i nothing (omega arith) early in
        let is : IsOld ch t (get_or ks i nothing) = subst (IsOld ch t) here old in
        omega (arith, below, is.same)
    none i lt old (inr late) =
        let j : ℕ = to + (i - from) in
        let here : get_or left i nothing ≡ get_or ks j nothing = get_or-append_right (take from ks) (drop to ks) from i nothing front late ∙ get_or-drop to ks (i - from) nothing in
        let is : IsOld ch t (get_or ks j nothing) = subst (IsOld ch t) here old in
        let some : to < length ks = omega (arith, size, lt, late) in
        let live = next nothing some in
        after (get_or ks to nothing) (get_or ks j nothing) is (low.from to nothing order some)
        (kept.ordered to j nothing (omega (arith, late)) (omega (arith, size, lt, late)))
        (kept.short to nothing some) live.0 live.1
      where
        after : (h k : KeptInterval) → IsOld ch t k → place ch 0 ≤ place_of h → place_of h ≤ place_of k → h.stop < h.start + 16384 → is_live ch clock h ≡ true → h.start < 2 ^ 64 → ⊥
        after h k is first up short live bound =
            let same : k.channel ≡ ch = is.same in
            let began : k.start + 16384 ≤ t = is.old in
            let one : h.channel ≡ ch = omega (arith, first, up, same, began, range, bound, soon) in
            let open_still : nat_lt clock h.stop ≡ true = elim (or_cases (not (h.channel == ch)) (nat_lt clock h.stop) live) [ inl other ↦ no_true (sym (ap not (eq-eqb _ _ one)) ∙ other) | inr still ↦ still ] in
            let not_ended : clock < h.stop = grind (arith, nat_tests) in
            omega (arith, one, up, same, began, short, not_ended, soon)

-- where the old ones aren't many, of so many channels
pub few_of : (n old len channels : ℕ) → n ≤ old → (0 < old → channels < len / old / 2) → 2 * (channels + 1) * n ≤ len
few_of n zero len channels le h =
    let none : n ≡ 0 = omega (arith, le) in
    subst (λ m. 2 * (channels + 1) * m ≤ len) (sym none) (grind arith)
few_of n (suc old) len channels le h =
    let q : ℕ = len / suc old in
    let half : q / 2 * 2 ≤ q = div-mul-le_self q 2 in
    let many : channels < q / 2 = h (omega arith) in
    let share : 2 * (channels + 1) ≤ q = omega (arith, half, many) in
    let a : 2 * (channels + 1) * n ≤ 2 * (channels + 1) * suc old = mul-le-mul_left (2 * (channels + 1)) le in
    let b : suc old * (2 * (channels + 1)) ≤ suc old * q = mul-le-mul_left (suc old) share in
    let c : q * suc old ≤ len = div-mul-le_self len (suc old) in
    omega (arith, a, b, c)

-- a state whose channel's clock was moved and whose lists have no old interval
pub HasNoOld-made : (old new : State) (c : Channel) (ch clock : ℕ) (backoff : ℕ × ℕ) → channel_of old.channels ch ≡ Some c → new.channels ≡ with_channel (record { id = c.id; ucd = c.ucd; clock = clock; backoff = backoff }) old.channels → old_intervals ch clock new.grants ≡ [] → old_intervals ch clock new.open_to_all ≡ [] → HasNoOld new ch
HasNoOld-made old new c ch clock backoff found made grants open_to_all =
    let now : clock_of new.channels ch ≡ clock = rw made (clock_of-placed c clock backoff old.channels ch found) in
    record { grants = rw now grants; open_to_all = rw now open_to_all }

-- a state whose channel's clock was moved and whose lists have few of them
pub HasFewOld-made : (old new : State) (c : Channel) (ch clock : ℕ) → channel_of old.channels ch ≡ Some c → new.channels ≡ with_channel (record { id = c.id; ucd = c.ucd; clock = clock; backoff = c.backoff }) old.channels → 2 * (length old.channels + 1) * length (old_intervals c.id clock new.grants) ≤ length new.grants → 2 * (length old.channels + 1) * length (old_intervals c.id clock new.open_to_all) ≤ length new.open_to_all → HasFewOld new ch
HasFewOld-made old new c ch clock found made grants open_to_all =
    let now : clock_of new.channels ch ≡ clock = rw made (clock_of-placed c clock c.backoff old.channels ch found) in
    let row : Channel = record { id = c.id; ucd = c.ucd; clock = clock; backoff = c.backoff } in
    let size : length new.channels ≡ length old.channels = ap length made ∙ length-map old.channels (λ (d : Channel). cond (d.id == row.id) row d) in
    let same : c.id ≡ ch = found_id old.channels ch c found in
    let P : ℕ → ℕ → ℕ → List Kept → Type 0 = λ n i t ks. 2 * (n + 1) * length (old_intervals i t ks) ≤ length ks in
    let as_now : (ks : List Kept) → P (length old.channels) c.id clock ks → P (length new.channels) ch (clock_of new.channels ch) ks = λ ks h. subst (λ n. P n ch (clock_of new.channels ch) ks) (sym size) (subst (λ t. P (length old.channels) ch t ks) (sym now) (subst (λ i. P (length old.channels) i clock ks) same h)) in
    record { grants = as_now new.grants grants; open_to_all = as_now new.open_to_all open_to_all }

-- few are old behind a minislot before that behind which one more is
pub few_before : (ks : List KeptInterval) (n ch m from few : ℕ) → m < 2 ^ 64 → AreKept ks → AreBefore (place ch 0) from ks → 2 * (n + 1) * few ≤ length ks → ((d : KeptInterval) → from + few < length ks → ((get_or ks (from + few) d).start < 2 ^ 64) × ((get_or ks (from + few) d).channel ≡ ch → m < (get_or ks (from + few) d).start + 16383)) → 2 * (n + 1) * length (old_intervals ch (m + 1) (map kept_interval ks)) ≤ length (map kept_interval ks)
few_before ks n ch m from few limit kept low share next =
    let some = few_old ks ch (m + 1) from (from + few) low later in
    let all : 2 * (n + 1) * length (old_intervals ch (m + 1) (map kept_interval ks)) ≤ 2 * (n + 1) * few = mul-le-mul_left (2 * (n + 1)) (omega (arith, some)) in
    rw (length-map ks kept_interval) (omega (arith, all, share))
  where
    begin : (k : KeptInterval) → place ch 0 ≤ place_of k → k.start < 2 ^ 64 → (k.channel ≡ ch → m < k.start + 16383) → (ch < k.channel) ⊎ (k.channel ≤ ch) → place ch (m + 1 - 16383) ≤ place_of k
    begin k behind bound young (inl above) = omega (arith, above, limit)
    begin k behind bound young (inr not_above) =
        let same : k.channel ≡ ch = omega (arith, behind, bound, not_above) in
        let soon : m < k.start + 16383 = young same in
        omega (arith, same, soon)

    later : (i : ℕ) (d : KeptInterval) → from + few ≤ i → i < length ks → place ch (m + 1 - 16383) ≤ place_of (get_or ks i d)
    later i d late lt =
        let first : from + few < length ks = omega (arith, late, lt) in
        let k : KeptInterval = get_or ks (from + few) d in
        let up : place_of k ≤ place_of (get_or ks i d) = kept.ordered (from + few) i d late lt in
        let begun = next d first in
        let young : place ch (m + 1 - 16383) ≤ place_of k = begin k (low.from (from + few) d (omega arith) first) begun.0 begun.1 (cases_lt ch k.channel) in
        omega (arith, young, up)
