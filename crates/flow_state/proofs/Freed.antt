-- Leases by SID: the least SID that is free, and a lease in its place.
use Rattle.std.proofs.Common.{◌≡◌, ℕ, ◌+◌, ◌-◌, ◌<◌, ◌≤◌, Bool, true, false, cond, not, ◌&&◌, ◌||◌, suc, zero, List, []}
use Rattle.std.proofs.Common.{◌∷◌, ◌++◌, map, filter, length, Option, Some, None, refl, sym, ap, subst, ◌∙◌, eqb, leb}
use Rattle.std.proofs.Common.{ltb, arith, slice_set, inl, inr}
use Rattle.std.specs.List.{find, list_any, range_with_len}
use Rattle.std.proofs.lemmas.Bool.{eqb-true}
use Rattle.flow_state.specs.Limits.{last_sid}
use Rattle.flow_state.specs.Rows.{Table, Lease, is_over, is_of_sid, is_given, free_sid, unicast_sids, put_lease}
use Rattle.flow_state.specs.StoredLeases.{next_of}
use Rattle.flow_state.proofs.Members.{Has, found_has}
use Rattle.flow_state.proofs.Assignments.{eqb_same, eqb_apart}

-- the SIDs of the leases are these in order, from low on
abbrev pub Runs : ℕ → List Lease → Type 0
Runs low [] = Unit {0}
Runs low (l ∷ ls) = (l.sid ≡ low) × Runs (low + 1) ls

-- the same as contracts say it
abbrev pub AreGiven : List Lease → Type 0
AreGiven ls = map (λ l. l.sid) ls ≡ range_with_len 1 (length ls)

runs_from : (low : ℕ) (ls : List Lease) → map (λ l. l.sid) ls ≡ range_with_len low (length ls) → Runs low ls
runs_from low [] e = tt
runs_from low (l ∷ ls) e = let head : l.sid ≡ low = cc in let tail : map (λ o. o.sid) ls ≡ range_with_len (low + 1) (length ls) = cc in (head, runs_from (low + 1) ls tail)

pub runs : (ls : List Lease) → AreGiven ls → Runs 1 ls
runs ls e = runs_from 1 ls e

given_from : (low : ℕ) (ls : List Lease) → Runs low ls → map (λ l. l.sid) ls ≡ range_with_len low (length ls)
given_from low [] r = refl
given_from low (l ∷ ls) r = ap (λ n. n ∷ map (λ o. o.sid) ls) r.0 ∙ ap (λ (ns : List ℕ). low ∷ ns) (given_from (low + 1) ls r.1)

pub given : (ls : List Lease) → Runs 1 ls → AreGiven ls
given ls r = given_from 1 ls r

-- a lease of the list has one of the SIDs
pub runs_has : (low : ℕ) (ls : List Lease) (l : Lease) → Runs low ls → Has ls l → (low ≤ l.sid) × (l.sid < low + length ls)
runs_has low [] l r h = absurd h
runs_has low (o ∷ ls) l r (inl e) = let same : o.sid ≡ l.sid = ap (λ (x : Lease). x.sid) e in let first = r.0 in (omega arith, omega arith)
runs_has low (o ∷ ls) l r (inr h) = let more = runs_has (low + 1) ls l r.1 h in (omega (arith, more.0), omega (arith, more.1))

-- ---- SIDs that were given

given_by : (low s : ℕ) (ls : List Lease) → Runs low ls → list_any (is_of_sid s) ls ≡ (leb low s && ltb s (low + length ls))
given_by low s [] r = none low s
  where
    none : (low s : ℕ) → false ≡ (leb low s && ltb s (low + 0))
    none low s = elim (leb low s) as (λ b. leb low s ≡ b → false ≡ (b && ltb s (low + 0))) [ true ↦ λ e. let off : ltb s (low + 0) ≡ false = grind (arith, e) in sym off | false ↦ λ e. refl ] refl
given_by low s (l ∷ ls) r =
    ap (λ n. eqb n s || list_any (is_of_sid s) ls) r.0 ∙ ap (λ b. eqb low s || b) (given_by (low + 1) s ls r.1) ∙ next low s (length ls)
  where
    next : (low s n : ℕ) → (eqb low s || (leb (low + 1) s && ltb s (low + 1 + n))) ≡ (leb low s && ltb s (low + suc n))
    next low s n = elim (eqb low s) as (λ b. eqb low s ≡ b → (b || (leb (low + 1) s && ltb s (low + 1 + n))) ≡ (leb low s && ltb s (low + suc n))) [
      | true ↦ λ e. let same : low ≡ s = eqb-true low s e in let le : leb low s ≡ true = grind (arith, same) in let lt : ltb s (low + suc n) ≡ true = grind (arith, same) in sym (ap (λ b. b && ltb s (low + suc n)) le ∙ lt)
      | false ↦ λ e. let le : leb (low + 1) s ≡ leb low s = grind (arith, e) in let lt : ltb s (low + 1 + n) ≡ ltb s (low + suc n) = ap (ltb s) (let same : low + 1 + n ≡ low + suc n = omega arith in same) in
          ap (λ b. b && ltb s (low + 1 + n)) le ∙ ap (λ b. leb low s && b) lt
    ] refl

-- a SID was given where it is one of the first
pub given_is : (t : Table) (sid : ℕ) → AreGiven t.leases → is_given t sid ≡ (leb 1 sid && leb sid (length t.leases))
given_is t sid g = given_by 1 sid t.leases (runs t.leases g) ∙ ap (λ b. leb 1 sid && b) (next sid (length t.leases))
  where
    next : (s n : ℕ) → ltb s (1 + n) ≡ leb s n
    next s n = grind arith

-- ---- the least SID that is free

find_same : (p q : ℕ → Bool) (low m : ℕ) → ((s : ℕ) → low ≤ s → p s ≡ q s) → find p (range_with_len low m) ≡ find q (range_with_len low m)
find_same p q low zero same = refl
find_same p q low (suc m) same =
    ap (λ b. cond b (Some low) (find p (range_with_len (low + 1) m))) (same low (omega arith))
    ∙ ap (λ o. cond (q low) (Some low) o) (find_same p q (low + 1) m (λ s le. same s (omega arith)))

module _ (over : Lease → Bool) where
  abbrev held : List Lease → ℕ → Bool
  held ls s = list_any (λ l. is_of_sid s l && not (over l)) ls

  abbrev choose : Option Lease → (low m n : ℕ) → Option ℕ
  choose (Some l) low m n = Some l.sid
  choose None low m n = cond (ltb n m) (Some (low + n)) None

  held_below : (low s : ℕ) (ls : List Lease) → Runs low ls → s < low → held ls s ≡ false
  held_below low s [] r h = refl
  held_below low s (l ∷ ls) r h =
      ap (λ n. (eqb n s && not (over l)) || held ls s) r.0
      ∙ ap (λ b. (b && not (over l)) || held ls s) (let off : eqb low s ≡ false = grind (arith, h) in off) ∙ held_below (low + 1) s ls r.1 (omega arith)

  twice : (b : Bool) → not (not b || false) ≡ b
  twice true = refl
  twice false = refl

  shift : (o : Option Lease) (low m n : ℕ) → choose o (low + 1) m n ≡ choose o low (suc m) (suc n)
  shift (Some l) low m n = refl
  shift None low m n =
      ap (λ k. cond (ltb n m) (Some k) None) (let same : low + 1 + n ≡ low + suc n = omega arith in same)
      ∙ ap (λ b. cond b (Some (low + suc n)) None) (let same : ltb n m ≡ ltb (suc n) (suc m) = grind arith in same)

  found : (ls : List Lease) (low m : ℕ) → Runs low ls → length ls ≤ m → find (λ s. not (held ls s)) (range_with_len low m) ≡ choose (find over ls) low m (length ls)
  found [] low zero r le = refl
  found [] low (suc m) r le = sym (
      ap (λ b. cond b (Some (low + 0)) None) (let lt : ltb 0 (suc m) ≡ true = grind arith in lt)
      ∙ ap (λ (n : ℕ). Some n) (let same : low + 0 ≡ low = omega arith in same)
      )
  found (l ∷ ls) low zero r le = absurd (omega arith)
  found (l ∷ ls) low (suc m) r le =
      let head : not (held (l ∷ ls) low) ≡ over l =
      ap (λ n. not ((eqb n low && not (over l)) || held ls low)) r.0 ∙ ap (λ b. not ((b && not (over l)) || held ls low)) (eqb_same low)
      ∙ ap (λ b. not (not (over l) || b)) (held_below (low + 1) low ls r.1 (omega arith)) ∙ twice (over l) in
      let rest : find (λ s. not (held (l ∷ ls) s)) (range_with_len (low + 1) m) ≡ choose (find over ls) low (suc m) (suc (length ls)) =
      find_same (λ s. not (held (l ∷ ls) s)) (λ s. not (held ls s)) (low + 1) m (λ s more. ap (λ n. not ((eqb n s && not (over l)) || held ls s)) r.0 ∙ ap (λ b. not ((b && not (over l)) || held ls s)) (eqb_apart low s (omega arith)))
      ∙ found ls (low + 1) m r.1 (omega arith) ∙ shift (find over ls) low m (length ls) in
      ap (λ b. cond b (Some low) (find (λ s. not (held (l ∷ ls) s)) (range_with_len (low + 1) m))) head
      ∙ elim (over l) as (λ b. cond b (Some low) (find (λ s. not (held (l ∷ ls) s)) (range_with_len (low + 1) m)) ≡ choose (cond b (Some l) (find over ls)) low (suc m) (suc (length ls))) [
        | true ↦ ap (λ (n : ℕ). Some n) (sym r.0)
        | false ↦ rest
      ]

-- that of the first lease that is over, else the next one
pub free_is : (t : Table) → AreGiven t.leases → length t.leases ≤ last_sid → free_sid t ≡ choose (is_over t) (find (is_over t) t.leases) 1 last_sid (length t.leases)
unfolding unicast_sids
free_is t g few = found (is_over t) t.leases 1 last_sid (runs t.leases g) few

pub free_over : (t : Table) (l : Lease) → AreGiven t.leases → length t.leases ≤ last_sid → find (is_over t) t.leases ≡ Some l → Some l.sid ≡ free_sid t
free_over t l g few e = sym (free_is t g few ∙ ap (λ o. choose (is_over t) o 1 last_sid (length t.leases)) e)

pub free_next : (t : Table) → AreGiven t.leases → length t.leases ≤ last_sid → find (is_over t) t.leases ≡ None → next_of t.leases ≡ free_sid t
free_next t g few e =
    ap (λ n. cond (ltb (length t.leases) last_sid) (Some n) None) (let same : length t.leases + 1 ≡ 1 + length t.leases = omega arith in same)
    ∙ sym (free_is t g few ∙ ap (λ o. choose (is_over t) o 1 last_sid (length t.leases)) e)

-- a SID that is free was given, or is the next one
pub free_most : (t : Table) (sid : ℕ) → AreGiven t.leases → length t.leases ≤ last_sid → free_sid t ≡ Some sid → sid ≤ length t.leases + 1
free_most t sid g few e = by (find (is_over t) t.leases) refl (sym (free_is t g few) ∙ e)
  where
    last : (b : Bool) → cond b (Some (1 + length t.leases)) None ≡ Some sid → sid ≤ length t.leases + 1
    last true h = let same : 1 + length t.leases ≡ sid = cc in omega arith
    last false h = absurd cc

    by : (o : Option Lease) → find (is_over t) t.leases ≡ o → choose (is_over t) o 1 last_sid (length t.leases) ≡ Some sid → sid ≤ length t.leases + 1
    by (Some l) f h = let same : l.sid ≡ sid = cc in let range = runs_has 1 t.leases l (runs t.leases g) (found_has (is_over t) t.leases l f).0 in omega (arith, range.1)
    by None f h = last (ltb (length t.leases) last_sid) h

-- ---- a lease in its place

module _ (l : Lease) where
  none_before : (low : ℕ) (ls : List Lease) → Runs low ls → l.sid ≤ low → filter (λ o. ltb o.sid l.sid) ls ≡ []
  none_before low [] r le = refl
  none_before low (o ∷ ls) r le =
      let first = r.0 in
      ap (λ b. cond b (o ∷ filter (λ o. ltb o.sid l.sid) ls) (filter (λ o. ltb o.sid l.sid) ls)) (let off : ltb o.sid l.sid ≡ false = grind (arith, first, le) in off) ∙ none_before (low + 1) ls r.1 (omega arith)

  all_behind : (low : ℕ) (ls : List Lease) → Runs low ls → l.sid < low → filter (λ o. ltb l.sid o.sid) ls ≡ ls
  all_behind low [] r lt = refl
  all_behind low (o ∷ ls) r lt =
      let first = r.0 in
      ap (λ b. cond b (o ∷ filter (λ o. ltb l.sid o.sid) ls) (filter (λ o. ltb l.sid o.sid) ls)) (let on : ltb l.sid o.sid ≡ true = grind (arith, first, lt) in on) ∙ ap (λ (os : List Lease). o ∷ os) (all_behind (low + 1) ls r.1 (omega arith))

  put_here : (o : Lease) (ls : List Lease) → o.sid ≡ l.sid → Runs (l.sid + 1) ls → put_lease l (o ∷ ls) ≡ l ∷ ls
  put_here o ls same r =
      ap (λ b. cond b (o ∷ filter (λ o. ltb o.sid l.sid) ls) (filter (λ o. ltb o.sid l.sid) ls) ++ l ∷ cond (ltb l.sid o.sid) (o ∷ filter (λ o. ltb l.sid o.sid) ls) (filter (λ o. ltb l.sid o.sid) ls)) (let off : ltb o.sid l.sid ≡ false = grind (arith, same) in off)
      ∙ ap (λ b. filter (λ o. ltb o.sid l.sid) ls ++ l ∷ cond b (o ∷ filter (λ o. ltb l.sid o.sid) ls) (filter (λ o. ltb l.sid o.sid) ls)) (let off : ltb l.sid o.sid ≡ false = grind (arith, same) in off)
      ∙ ap (λ (front : List Lease). front ++ l ∷ filter (λ o. ltb l.sid o.sid) ls) (none_before (l.sid + 1) ls r (omega arith))
      ∙ ap (λ (back : List Lease). l ∷ back) (all_behind (l.sid + 1) ls r (omega arith))

  put_later : (o : Lease) (ls : List Lease) → o.sid < l.sid → put_lease l (o ∷ ls) ≡ o ∷ put_lease l ls
  put_later o ls lt =
      ap (λ b. cond b (o ∷ filter (λ o. ltb o.sid l.sid) ls) (filter (λ o. ltb o.sid l.sid) ls) ++ l ∷ cond (ltb l.sid o.sid) (o ∷ filter (λ o. ltb l.sid o.sid) ls) (filter (λ o. ltb l.sid o.sid) ls)) (let on : ltb o.sid l.sid ≡ true = grind (arith, lt) in on)
      ∙ ap (λ b. o ∷ (filter (λ o. ltb o.sid l.sid) ls ++ l ∷ cond b (o ∷ filter (λ o. ltb l.sid o.sid) ls) (filter (λ o. ltb l.sid o.sid) ls))) (let off : ltb l.sid o.sid ≡ false = grind (arith, lt) in off)

  -- over the lease of its SID
  put_over_from : (low place : ℕ) (ls : List Lease) → Runs low ls → l.sid ≡ low + place → place < length ls → put_lease l ls ≡ slice_set ls place l
  put_over_from low place [] r e lt = absurd (omega arith)
  put_over_from low zero (o ∷ ls) r e lt =
      let first = r.0 in
      let at : low + 1 ≡ l.sid + 1 = omega arith in
      put_here o ls (omega arith) (subst_runs ls at r.1)
    where
      subst_runs : (ls : List Lease) {m n : ℕ} → m ≡ n → Runs m ls → Runs n ls
      subst_runs ls e r = rw (sym e) r
  put_over_from low (suc place) (o ∷ ls) r e lt =
      let first = r.0 in
      put_later o ls (omega arith) ∙ ap (λ (os : List Lease). o ∷ os) (put_over_from (low + 1) place ls r.1 (omega arith) (omega arith))

  -- behind all
  put_last_from : (low : ℕ) (ls : List Lease) → Runs low ls → l.sid ≡ low + length ls → put_lease l ls ≡ ls ++ l ∷ []
  put_last_from low [] r e = refl
  put_last_from low (o ∷ ls) r e = let first = r.0 in put_later o ls (omega arith) ∙ ap (λ (os : List Lease). o ∷ os) (put_last_from (low + 1) ls r.1 (omega arith))

  pub put_over : (ls : List Lease) → AreGiven ls → 1 ≤ l.sid → l.sid - 1 < length ls → put_lease l ls ≡ slice_set ls (l.sid - 1) l
  put_over ls g one lt = put_over_from 1 (l.sid - 1) ls (runs ls g) (omega arith) lt

  pub put_last : (ls : List Lease) → AreGiven ls → l.sid ≡ length ls + 1 → put_lease l ls ≡ ls ++ l ∷ []
  put_last ls g e = put_last_from 1 ls (runs ls g) (omega arith)

  runs_put : (low : ℕ) (ls : List Lease) → Runs low ls → low ≤ l.sid → l.sid ≤ low + length ls → Runs low (put_lease l ls)
  runs_put low [] r ge le = (omega arith, tt)
  runs_put low (o ∷ ls) r ge le = by (eqb low l.sid) refl (λ less. runs_put (low + 1) ls r.1 (omega arith) (omega arith))
    where
      first : o.sid ≡ low
      first = r.0

      by : (b : Bool) → eqb low l.sid ≡ b → (low < l.sid → Runs (low + 1) (put_lease l ls)) → Runs low (put_lease l (o ∷ ls))
      by true e more = let same : low ≡ l.sid = eqb-true low l.sid e in
          rw (put_here o ls (first ∙ same) (subst (λ n. Runs (n + 1) ls) same r.1)) (sym same, r.1)
      by false e more = let less : low < l.sid = grind (arith, e, ge) in
          rw (put_later o ls (omega arith)) (first, more less)

  -- the leases are in order with it
  pub given_put : (ls : List Lease) → AreGiven ls → 1 ≤ l.sid → l.sid ≤ length ls + 1 → AreGiven (put_lease l ls)
  given_put ls g one le = given (put_lease l ls) (runs_put 1 ls (runs ls g) one (omega arith))

  -- how many leases there are, with it
  abbrev Bounds : (low n : ℕ) → List Lease → Type 0
  Bounds low n os = (n ≤ length os) × (l.sid < low + length os) × ((most : ℕ) → n ≤ most → l.sid < low + most → length os ≤ most)

  length_from : (low : ℕ) (ls : List Lease) → Runs low ls → low ≤ l.sid → l.sid ≤ low + length ls → Bounds low (length ls) (put_lease l ls)
  length_from low [] r ge le = (omega arith, omega arith, λ most few lt. omega arith)
  length_from low (o ∷ ls) r ge le = by (eqb low l.sid) refl (λ less. length_from (low + 1) ls r.1 (omega arith) (omega arith))
    where
      first : o.sid ≡ low
      first = r.0

      later : (most : ℕ) → suc (length ls) ≤ most → l.sid < low + most → low < l.sid → ((n : ℕ) → length ls ≤ n → l.sid < low + 1 + n → length (put_lease l ls) ≤ n) → suc (length (put_lease l ls)) ≤ most
      later most few lt less fits = let fewer = fits (most - 1) (omega arith) (omega arith) in omega arith

      by : (b : Bool) → eqb low l.sid ≡ b → (low < l.sid → Bounds (low + 1) (length ls) (put_lease l ls)) → Bounds low (suc (length ls)) (put_lease l (o ∷ ls))
      by true e more = let same : low ≡ l.sid = eqb-true low l.sid e in
          rw (put_here o ls (first ∙ same) (subst (λ n. Runs (n + 1) ls) same r.1)) (omega arith, omega arith, λ most few lt. few)
      by false e more =
          let less : low < l.sid = grind (arith, e, ge) in
          let all = more less in
          rw (put_later o ls (omega arith)) (omega (arith, all.0), omega (arith, all.1), λ most few lt. later most few lt less all.2)

  -- they are at least as many, its SID among them, and no more than there are unicast SIDs
  pub length_put : (ls : List Lease) → AreGiven ls → 1 ≤ l.sid → l.sid ≤ length ls + 1 → (length ls ≤ length (put_lease l ls)) × (l.sid ≤ length (put_lease l ls))
  length_put ls g one le = let all = length_from 1 ls (runs ls g) one (omega arith) in (all.0, omega (arith, all.1))

  pub most_put : (ls : List Lease) → AreGiven ls → 1 ≤ l.sid → l.sid ≤ length ls + 1 → (most : ℕ) → length ls ≤ most → l.sid ≤ most → length (put_lease l ls) ≤ most
  most_put ls g one le most few lt = (length_from 1 ls (runs ls g) one (omega arith)).2 most few (omega (arith, lt))

  pub few_put : (ls : List Lease) → AreGiven ls → 1 ≤ l.sid → l.sid ≤ length ls + 1 → length ls ≤ last_sid → l.sid ≤ last_sid → length (put_lease l ls) ≤ last_sid
  few_put ls g one le few most = (length_from 1 ls (runs ls g) one (omega arith)).2 last_sid few (omega arith)
