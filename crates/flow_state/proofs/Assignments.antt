-- Leases of SIDs, and the one that a flow that isn't refused is given.
use Rattle.std.proofs.Common.{◌≡◌, ◌⊎◌, ℕ, ◌<◌, ◌≤◌, Bool, true, false, cond, not, ◌&&◌, List, [], ◌∷◌, ◌++◌, filter}
use Rattle.std.proofs.Common.{Option, Some, None, refl, sym, ap, ◌∙◌, arith, eqb, ltb, inl, inr, is_some, is_none}
use Rattle.std.proofs.Common.{slice_get}
use Rattle.std.specs.List.{find}
use Rattle.std.specs.Prelude.{unwrap_or}
use Rattle.std.proofs.lemmas.Bool.{eqb-true, leb-true, and_parts, not-true}
use Rattle.flow_state.specs.declared.flow.FlowKind.{FlowKind}
use Rattle.flow_state.specs.declared.refusal.Refusal.TheVariants.{BadValue, SidsSpent}
use Rattle.flow_state.specs.Limits.{is_good_kind, last_time}
use Rattle.flow_state.specs.Rows.{Table, Lease, is_over, is_lease_of, lease_of, is_of_sid, is_given, is_leased}
use Rattle.flow_state.specs.Rows.{unicast_sids, free_sid, first_of, put_lease}
use Rattle.flow_state.specs.Refusals.{is_good_last, table_flow_refusal}
use Rattle.flow_state.proofs.Members.{Has, has_any, none_has, found_has, has_between}
use Rattle.flow_state.proofs.Filters.{filter_append, filter_between, filter_none, find_is}

module _ {X : Type 0} (p : X → Bool) where
  pub find_kept : (xs : List X) (a b : X) → find p xs ≡ Some a → find p (xs ++ b ∷ []) ≡ Some a
  find_kept [] a b e = absurd cc
  find_kept (x ∷ xs) a b e =
      elim (p x) as (λ c. cond c (Some x) (find p xs) ≡ Some a → cond c (Some x) (find p (xs ++ b ∷ [])) ≡ Some a) [ true ↦ λ f. f | false ↦ λ f. find_kept xs a b f ] e

  pub find_pushed : (xs : List X) (a b : X) → find p (xs ++ b ∷ []) ≡ Some a → (find p xs ≡ Some a) ⊎ (b ≡ a)
  find_pushed [] a b e = elim (p b) as (λ c. cond c (Some b) None ≡ Some a → (None ≡ Some a) ⊎ (b ≡ a)) [ true ↦ λ f. inr cc | false ↦ λ f. inl f ] e
  find_pushed (x ∷ xs) a b e =
      elim (p x) as (λ c. cond c (Some x) (find p (xs ++ b ∷ [])) ≡ Some a → (cond c (Some x) (find p xs) ≡ Some a) ⊎ (b ≡ a)) [ true ↦ λ f. inl f | false ↦ λ f. find_pushed xs a b f ] e

  pub find_passes : (xs : List X) (a : X) → find p xs ≡ Some a → p a ≡ true
  find_passes xs a e = (found_has p xs a e).1

pub eqb_same : (n : ℕ) → eqb n n ≡ true
eqb_same n = grind arith

pub eqb_apart : (a b : ℕ) → a < b → eqb a b ≡ false
eqb_apart a b h = grind arith

-- ---- tests

not_below : (m n : ℕ) → not (ltb m n) ≡ true → n ≤ m
not_below m n e = grind (arith, e)

-- ---- the lease of modem and tag

-- the lease that is found is one of the table's, is theirs, and isn't over
pub lease_is : (t : Table) (modem tag : ℕ) (l : Lease) → lease_of t modem tag ≡ Some l → Has t.leases l × (l.modem ≡ modem) × (l.tag ≡ tag) × (t.row.next_start ≤ l.last)
lease_is t modem tag l e =
    let found = found_has (is_lease_of t modem tag) t.leases l e in
    let tests = and_parts _ _ found.1 in
    let names = and_parts _ _ tests.0 in
    (found.0, eqb-true _ _ names.0, eqb-true _ _ names.1, not_below l.last t.row.next_start tests.1)

-- ---- free SIDs

pub free_is_free : (t : Table) (sid : ℕ) → free_sid t ≡ Some sid → is_leased t sid ≡ false
free_is_free t sid e = not-true (is_leased t sid) (find_passes (λ s. not (is_leased t s)) unicast_sids sid e)

-- a lease that isn't over keeps its SID from being free
pub leased : (t : Table) (l : Lease) → Has t.leases l → t.row.next_start ≤ l.last → is_leased t l.sid ≡ true
leased t l h goes_on = has_any (λ o. is_of_sid l.sid o && not (is_over t o)) t.leases l h (
    ap (λ b. b && not (is_over t l)) (eqb_same l.sid) ∙ not_over l.last t.row.next_start goes_on
    )
  where
    not_over : (m n : ℕ) → n ≤ m → not (ltb m n) ≡ true
    not_over m n le = grind (arith, le)

-- a SID that is free was given before by a lease that is over, if it was; the new one begins with the next MAP
pub over_before : (t : Table) (sid : ℕ) (l : Lease) → free_sid t ≡ Some sid → Has t.leases l → l.sid ≡ sid → (l.last < t.row.next_start) × (first_of t sid ≡ t.row.next_start)
over_before t sid l free h same =
    let test : is_of_sid sid l ≡ true = ap (λ n. eqb n sid) same ∙ eqb_same sid in
    let off = none_has (λ o. is_of_sid sid o && not (is_over t o)) t.leases l (free_is_free t sid free) h in
    let over : not (is_over t l) ≡ false = sym (ap (λ b. b && not (is_over t l)) test) ∙ off in
    let given : is_given t sid ≡ true = has_any (is_of_sid sid) t.leases l h test in
    (below l.last t.row.next_start over, ap (λ b. cond b t.row.next_start 0) given)
  where
    below : (m n : ℕ) → not (ltb m n) ≡ false → m < n
    below m n e = grind (arith, e)

-- a new lease begins with the next MAP at the latest
pub first_early : (t : Table) (sid : ℕ) → first_of t sid ≤ t.row.next_start
first_early t sid = elim (is_given t sid) as (λ b. cond b t.row.next_start 0 ≤ t.row.next_start) [ true ↦ omega arith | false ↦ omega arith ]

-- ---- a lease in its place

pub has_put : (l : Lease) (ls : List Lease) (x : Lease) → Has (put_lease l ls) x → Has ls x ⊎ (l ≡ x)
has_put l ls x h = elim (has_between (λ o. ltb o.sid l.sid) (λ o. ltb l.sid o.sid) l ls x h) [ inl old ↦ inl old.0 | inr is ↦ inr is ]

-- the latest lease of the SID is the one that was put
pub put_found : (l : Lease) (ls : List Lease) → find (is_of_sid l.sid) (put_lease l ls) ≡ Some l
put_found l ls =
    let p : Lease → Bool = is_of_sid l.sid in
    let front : List Lease = filter (λ o. ltb o.sid l.sid) ls in
    let back : List Lease = filter (λ o. ltb l.sid o.sid) ls in
    find_is p (put_lease l ls) ∙ ap (λ (os : List Lease). slice_get os 0) (
    filter_append p front (l ∷ back) ∙ ap (λ (os : List Lease). os ++ filter p (l ∷ back)) (filter_none p (λ o. ltb o.sid l.sid) (λ o e. apart o.sid (eqb-true o.sid l.sid e)) ls)
    ∙ ap (λ b. cond b (l ∷ filter p back) (filter p back)) (eqb_same l.sid))
  where
    apart : (m : ℕ) → m ≡ l.sid → ltb m l.sid ≡ false
    apart m same = grind (arith, same)

-- the latest leases of the others stay
pub put_others : (l : Lease) (ls : List Lease) (sid : ℕ) → eqb l.sid sid ≡ false → find (is_of_sid sid) (put_lease l ls) ≡ find (is_of_sid sid) ls
put_others l ls sid off =
    find_is (is_of_sid sid) (put_lease l ls)
    ∙ ap (λ (os : List Lease). slice_get os 0) (filter_between (is_of_sid sid) (λ o. ltb o.sid l.sid) (λ o. ltb l.sid o.sid) l ls off (side l.sid off))
    ∙ sym (find_is (is_of_sid sid) ls)
  where
    after : (n : ℕ) → ltb sid n ≡ false → eqb n sid ≡ false → ltb n sid ≡ true
    after n e o = grind (arith, e, o)

    not_after : (n : ℕ) → ltb sid n ≡ true → ltb n sid ≡ false
    not_after n e = grind (arith, e)

    side : (n : ℕ) → eqb n sid ≡ false → ((o : Lease) → is_of_sid sid o ≡ true → (ltb o.sid n ≡ true) × (ltb n o.sid ≡ false)) ⊎ ((o : Lease) → is_of_sid sid o ≡ true → (ltb o.sid n ≡ false) × (ltb n o.sid ≡ true))
    side n e = elim (ltb sid n) as (λ b. ltb sid n ≡ b → ((o : Lease) → is_of_sid sid o ≡ true → (ltb o.sid n ≡ true) × (ltb n o.sid ≡ false)) ⊎ ((o : Lease) → is_of_sid sid o ≡ true → (ltb o.sid n ≡ false) × (ltb n o.sid ≡ true))) [
      | true ↦ λ lt. inl (λ o h. rw (eqb-true o.sid sid h) (lt, not_after n lt))
      | false ↦ λ ge. inr (λ o h. rw (eqb-true o.sid sid h) (ge, after n ge e))
    ] refl

-- ---- a flow that isn't refused

-- it has a kind within the limits, an end that may be, and a SID
pub record IsAdded (t : Table) (last : ℕ) (kind : FlowKind) : Type 0 where
  pub kind_good : is_good_kind kind ≡ true
  pub most : last ≤ last_time
  pub goes_on : t.row.next_start ≤ last
  pub sid : ℕ
  pub free : free_sid t ≡ Some sid

pub is_added : (t : Table) (modem tag last : ℕ) (kind : FlowKind) → lease_of t modem tag ≡ None → table_flow_refusal t modem tag last kind ≡ None → IsAdded t last kind
is_added t modem tag last kind none e =
    by (is_good_kind kind && is_good_last t last) (free_sid t) refl refl (ap (λ (o : Option Lease). cond (is_some o) None (cond (not (is_good_kind kind && is_good_last t last)) (Some BadValue) (cond (is_none (free_sid t)) (Some SidsSpent) None))) (sym none) ∙ e)
  where
    by : (good : Bool) (o : Option ℕ) → (is_good_kind kind && is_good_last t last) ≡ good → free_sid t ≡ o → cond (not good) (Some BadValue) (cond (is_none o) (Some SidsSpent) None) ≡ None → IsAdded t last kind
    by false o g f h = absurd cc
    by true None g f h = absurd cc
    by true (Some sid) g f h =
        let values = and_parts _ _ g in
        let times = and_parts _ _ values.1 in
        record { kind_good = values.0; most = leb-true _ _ times.0; goes_on = leb-true _ _ times.1; sid = sid; free = f }

pub unwrap_some : (o : Option ℕ) (n : ℕ) → o ≡ Some n → unwrap_or o 0 ≡ n
unwrap_some o n e = ap (λ (p : Option ℕ). unwrap_or p 0) e
