-- Chains through requests, made from the last one to the first, and followed.
use Rattle.std.proofs.Common.{◌≡◌, ℕ, zero, suc, ◌-◌, ◌==◌, ◌<◌, ◌≤◌, Bool, true, false, cond, List, [], ◌∷◌, ◌++◌}
use Rattle.std.proofs.Common.{length, set, drop, Some, slice_get, slice_index, refl, sym, ap, subst, ◌∙◌, arith, inl}
use Rattle.std.proofs.Common.{inr, eqb, append_assoc}
use Rattle.std.specs.List.{AllByRecursion}
use Rattle.std.proofs.Math.ListN.{length-set}
use Rattle.std.proofs.lemmas.Bool.{eqb-true, false_from_ne_true}
use Rattle.std.proofs.lemmas.Bool.Decides.{Decides-eqb}
use Rattle.std.proofs.lemmas.Option.{slice_get_within}
use Rattle.std.proofs.lemmas.List.{length-append, get_or-set_same, get_or-set_other}
use Rattle.grant_machine_parts.specs.Ranks.{Ranked, of_priority}
use Rattle.grant_machine_parts.specs.Chains.{Leads, AreFrom}
use Rattle.grant_machine_parts.proofs.Splits.{item_at}

-- ---- one place further to the front

drop_at : (rs : List Ranked) (i : ℕ) (r : Ranked) → slice_get rs i ≡ Some r → drop i rs ≡ r ∷ drop (suc i) rs
drop_at [] i r at = absurd cc
drop_at (x ∷ xs) zero r at = let same : x ≡ r = cc in ap (λ (y : Ranked). y ∷ xs) same
drop_at (x ∷ xs) (suc i) r at = drop_at xs i r at

-- a request of the priority, and of another one
here : (rs : List Ranked) (i p : ℕ) (r : Ranked) → slice_get rs i ≡ Some r → r.priority ≡ p → of_priority (drop i rs) p ≡ r ∷ of_priority (drop (suc i) rs) p
here rs i p r at is = ap (λ (ds : List Ranked). of_priority ds p) (drop_at rs i r at) ∙ ap (λ b. cond b (r ∷ of_priority (drop (suc i) rs) p) (of_priority (drop (suc i) rs) p)) ((Decides-eqb r.priority p).1 is)

other : (rs : List Ranked) (i p : ℕ) (r : Ranked) → slice_get rs i ≡ Some r → (r.priority == p) ≡ false → of_priority (drop i rs) p ≡ of_priority (drop (suc i) rs) p
other rs i p r at isnt = ap (λ (ds : List Ranked). of_priority ds p) (drop_at rs i r at) ∙ ap (λ b. cond b (r ∷ of_priority (drop (suc i) rs) p) (of_priority (drop (suc i) rs) p)) isnt

leads_on : (rs : List Ranked) (i p k : ℕ) (r : Ranked) → slice_get rs i ≡ Some r → (r.priority == p) ≡ false → Leads rs p (suc i) k → Leads rs p i k
leads_on rs i p k r at isnt (inl h) = inl (h.0, other rs i p r at isnt ∙ h.1)
leads_on rs i p k r at isnt (inr h) = inr (h.0, h.1, h.2, h.3, h.4, other rs i p r at isnt ∙ h.5)

differs : (m n : ℕ) → (m ≡ n → ⊥) → (m == n) ≡ false
differs m n ne = false_from_ne_true (eqb m n) (λ e. ne (eqb-true m n e))

one_request : (rs : List Ranked) (i : ℕ) (q r : Ranked) → slice_get rs i ≡ Some q → slice_get rs i ≡ Some r → q ≡ r
one_request rs i q r a b = cc

zero_at : (ns : List ℕ) (p : ℕ) → AllByRecursion (λ k. k ≡ 0) ns → slice_index ns p ≡ 0
zero_at [] p all = refl
zero_at (n ∷ ns) zero all = all.0
zero_at (n ∷ ns) (suc p) all = zero_at ns p all.1

pub chained_none : (rs : List Ranked) → length rs ≤ 255 → (firsts nexts : List ℕ) → length firsts ≡ 8 → length nexts ≡ 255 → AllByRecursion (λ k. k ≡ 0) firsts → AreFrom firsts nexts rs (length rs)
chained_none rs few firsts nexts a b none = record {
  all_firsts = a;
  all_nexts = b;
  few = few;
  first = λ p lt. inl (zero_at firsts p none, ends rs p);
  next = λ j r le at lt. absurd (let within = slice_get_within rs j r at in omega (arith, within, le));
}
  where
    ends : (xs : List Ranked) (p : ℕ) → of_priority (drop (length xs) xs) p ≡ []
    ends [] p = refl
    ends (x ∷ xs) p = ends xs p

-- a request that has none of the priorities
pub chained_past : (firsts nexts : List ℕ) (rs : List Ranked) (i : ℕ) (r : Ranked) → slice_get rs i ≡ Some r → 8 ≤ r.priority → AreFrom firsts nexts rs (suc i) → AreFrom firsts nexts rs i
chained_past firsts nexts rs i r at over are = record {
  all_firsts = are.all_firsts;
  all_nexts = are.all_nexts;
  few = are.few;
  first = λ p lt. leads_on rs i p (slice_index firsts p) r at (differs r.priority p (λ same. omega arith)) (are.first p lt);
  next = λ j q le at_j lt. by j q at_j lt le (eqb j i) refl;
}
  where
    by : (j : ℕ) (q : Ranked) → slice_get rs j ≡ Some q → q.priority < 8 → i ≤ j → (b : Bool) → eqb j i ≡ b → Leads rs q.priority (suc j) (slice_index nexts j)
    by j q at_j lt le true e =
        let same : j ≡ i = eqb-true j i e in
        let is : q ≡ r = one_request rs i q r (subst (λ (k : ℕ). slice_get rs k ≡ Some q) same at_j) at in
        let high : 8 ≤ q.priority = subst (λ (x : Ranked). 8 ≤ x.priority) (sym is) over in
        absurd (omega (arith, high, lt))
    by j q at_j lt le false e = are.next j q (grind (arith, e, le)) at_j lt

-- a request that is put before the chain of its priority
module _ (firsts nexts firsts' nexts' : List ℕ) (rs : List Ranked) (i p : ℕ) (r : Ranked) (at : slice_get rs i ≡ Some r) (is : r.priority ≡ p) (known : p < 8)
    (put_next : nexts' ≡ set nexts i (slice_index firsts p)) (put_first : firsts' ≡ set firsts p (suc i)) (are : AreFrom firsts nexts rs (suc i)) where
  next_here : slice_index nexts' i ≡ slice_index firsts p
  next_here = let within = slice_get_within rs i r at in let few = are.few in let all = are.all_nexts in ap (λ ns. slice_index ns i) put_next ∙ get_or-set_same nexts i (slice_index firsts p) 0 (omega arith)

  next_else : (j : ℕ) → eqb j i ≡ false → slice_index nexts' j ≡ slice_index nexts j
  next_else j e = ap (λ ns. slice_index ns j) put_next ∙ get_or-set_other nexts i j (slice_index firsts p) 0 (λ same. grind (arith, e, same))

  first_here : slice_index firsts' p ≡ suc i
  first_here = let all = are.all_firsts in ap (λ ns. slice_index ns p) put_first ∙ get_or-set_same firsts p (suc i) 0 (omega arith)

  first_else : (q : ℕ) → eqb q p ≡ false → slice_index firsts' q ≡ slice_index firsts q
  first_else q e = ap (λ ns. slice_index ns q) put_first ∙ get_or-set_other firsts p q (suc i) 0 (λ same. grind (arith, e, same))

  first_by : (q : ℕ) → q < 8 → (b : Bool) → eqb q p ≡ b → Leads rs q i (slice_index firsts' q)
  first_by q lt true e =
      let same : q ≡ p = eqb-true q p e in
      subst (λ (m : ℕ). Leads rs m i (slice_index firsts' m)) (sym same) (inr (i, r, first_here, at, is, here rs i p r at is))
  first_by q lt false e =
      let isnt : (r.priority == q) ≡ false = differs r.priority q (λ same. grind (arith, e, is, same)) in
      subst (λ (k : ℕ). Leads rs q i k) (sym (first_else q e)) (leads_on rs i q (slice_index firsts q) r at isnt (are.first q lt))

  next_by : (j : ℕ) (q : Ranked) → slice_get rs j ≡ Some q → q.priority < 8 → i ≤ j → (b : Bool) → eqb j i ≡ b → Leads rs q.priority (suc j) (slice_index nexts' j)
  next_by j q at_j lt le true e =
      let same : j ≡ i = eqb-true j i e in
      let one : q ≡ r = one_request rs i q r (subst (λ (k : ℕ). slice_get rs k ≡ Some q) same at_j) at in
      let prio : q.priority ≡ p = ap (λ (x : Ranked). x.priority) one ∙ is in
      let led : Leads rs p (suc i) (slice_index nexts' i) = subst (λ (k : ℕ). Leads rs p (suc i) k) (sym next_here) (are.first p known) in
      subst (λ (m : ℕ). Leads rs m (suc j) (slice_index nexts' j)) (sym prio) (subst (λ (k : ℕ). Leads rs p (suc k) (slice_index nexts' k)) (sym same) led)
  next_by j q at_j lt le false e = subst (λ (k : ℕ). Leads rs q.priority (suc j) k) (sym (next_else j e)) (are.next j q (grind (arith, e, le)) at_j lt)

  pub chained_put : AreFrom firsts' nexts' rs i
  chained_put = record {
    all_firsts = ap length put_first ∙ length-set firsts p (suc i) ∙ are.all_firsts;
    all_nexts = ap length put_next ∙ length-set nexts i (slice_index firsts p) ∙ are.all_nexts;
    few = are.few;
    first = λ q lt. first_by q lt (eqb q p) refl;
    next = λ j q le at_j lt. next_by j q at_j lt le (eqb j i) refl;
  }

-- ---- along a chain

pub leads_within : (rs : List Ranked) (p place k : ℕ) → Leads rs p place k → 0 < k → k - 1 < length rs
leads_within rs p place k (inl h) some = absurd (omega (arith, h.0, some))
leads_within rs p place k (inr h) some = let within = slice_get_within rs h.0 h.1 h.3 in omega (arith, h.2, within)

-- there is one more to come
pub more_to_come : (rs xs : List Ranked) (p place k n : ℕ) → length (xs ++ of_priority (drop place rs) p) ≡ n → Leads rs p place k → 0 < k → length xs < n
more_to_come rs xs p place k n len (inl h) some = absurd (omega (arith, h.0, some))
more_to_come rs xs p place k n len (inr h) some =
    let sum = length-append xs (of_priority (drop place rs) p) in
    let one : length (of_priority (drop place rs) p) ≡ suc (length (of_priority (drop (suc h.0) rs) p)) = ap length h.5 in
    omega (arith, len, sum, one)

-- the one that is led to is added
pub one_on : (firsts nexts : List ℕ) (rs xs ys total : List Ranked) (p place k next : ℕ) → AreFrom firsts nexts rs 0 → p < 8 → Leads rs p place k → 0 < k → xs ++ of_priority (drop place rs) p ≡ total
    → ((r : Ranked) → slice_get rs (k - 1) ≡ Some r → ys ≡ xs ++ r ∷ []) → next ≡ slice_index nexts (k - 1) → (ys ++ of_priority (drop k rs) p ≡ total) × Leads rs p k next
one_on firsts nexts rs xs ys total p place k next are known (inl h) some sum put on = absurd (omega (arith, h.0, some))
one_on firsts nexts rs xs ys total p place k next are known (inr h) some sum put on =
    let back : h.0 ≡ k - 1 = omega (arith, h.2) in
    let prio : h.1.priority ≡ p = h.4 in
    let led : Leads rs h.1.priority (suc h.0) (slice_index nexts h.0) = are.next h.0 h.1 (omega arith) h.3 (omega (arith, prio, known)) in
    let led_p : Leads rs p (suc h.0) (slice_index nexts h.0) = subst (λ (m : ℕ). Leads rs m (suc h.0) (slice_index nexts h.0)) prio led in
    let is : next ≡ slice_index nexts h.0 = on ∙ ap (slice_index nexts) (sym back) in (
      ap (λ (zs : List Ranked). zs ++ of_priority (drop k rs) p) (put h.1 (subst (λ (m : ℕ). slice_get rs m ≡ Some h.1) back h.3))
          ∙ append_assoc xs (h.1 ∷ []) (of_priority (drop k rs) p)
          ∙ ap (λ (m : ℕ). xs ++ h.1 ∷ of_priority (drop m rs) p) h.2
          ∙ ap (λ (zs : List Ranked). xs ++ zs) (sym h.5)
          ∙ sum,
      subst (λ (m : ℕ). Leads rs p m next) (sym h.2) (subst (λ (m : ℕ). Leads rs p (suc h.0) m) (sym is) led_p),
    )

-- fewer are to come
pub fewer : (rs xs ys : List Ranked) (p place k n : ℕ) → length (xs ++ of_priority (drop place rs) p) ≡ n → Leads rs p place k → 0 < k → ((r : Ranked) → slice_get rs (k - 1) ≡ Some r → ys ≡ xs ++ r ∷ []) → n - length ys < n - length xs
fewer rs xs ys p place k n len leads some put =
    let more = more_to_come rs xs p place k n len leads some in
    let r = item_at rs (k - 1) (leads_within rs p place k leads some) in
    let added : length ys ≡ length (xs ++ r.0 ∷ []) = ap length (put r.0 r.1) in
    omega (arith, more, added, length-append xs (r.0 ∷ []))
