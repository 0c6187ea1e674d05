-- What is there of an epoch among the nodes of three.
use Rattle.std.proofs.Common.{◌≡◌, ◌≢◌, ◌⊎◌, ◌∙◌, ℕ, ◌+◌, ◌<◌, ◌≤◌, Bool, true, false, cond, eqb, Option, Some, None}
use Rattle.std.proofs.Common.{refl}
use Rattle.std.proofs.Common.{sym, ap, subst, inl, inr, eqb-true, eq-eqb, arith}
use Rattle.std.specs.Prelude.{unwrap_or}
use Rattle.hosts.specs.Slots.{slot}

pub eqb_no : (a b : ℕ) → a ≢ b → eqb a b ≡ false
eqb_no a b differ = by (eqb a b) refl
  where
    by : (t : Bool) → eqb a b ≡ t → eqb a b ≡ false
    by true is = absurd (differ (eqb-true a b is))
    by false is = is

pub same_inside : {S : Type 0} (x y : S) → Some x ≡ Some y → x ≡ y
same_inside {S} x y is = ap (λ (o : Option S). unwrap_or o x) is

-- the part behind the own one
abbrev tail : {S : Type 0} → ℕ → Option S → S → ℕ → Option S
tail number before after e = cond (eqb e (number + 1)) (Some after) (cond (eqb (e + 1) number) before None)

pub slot_own : {S : Type 0} (n : ℕ) (before : Option S) (own after : S) → slot n before own after n ≡ Some own
slot_own n before own after = ap (λ t. cond t (Some own) (tail n before after n)) (eq-eqb n n refl)

not_own : {S : Type 0} (n : ℕ) (before : Option S) (own after : S) (e : ℕ) → e ≢ n → slot n before own after e ≡ tail n before after e
not_own n before own after e differ = ap (λ t. cond t (Some own) (tail n before after e)) (eqb_no e n differ)

pub slot_after : {S : Type 0} (n : ℕ) (before : Option S) (own after : S) → slot n before own after (n + 1) ≡ Some after
slot_after n before own after =
    not_own n before own after (n + 1) (λ is. omega (arith, is)) ∙ ap (λ t. cond t (Some after) (cond (eqb (n + 1 + 1) n) before None)) (eq-eqb (n + 1) (n + 1) refl)

not_near : {S : Type 0} (n : ℕ) (before : Option S) (own after : S) (e : ℕ) → e ≢ n → e ≢ n + 1 → slot n before own after e ≡ cond (eqb (e + 1) n) before None
not_near n before own after e differ above =
    not_own n before own after e differ ∙ ap (λ t. cond t (Some after) (cond (eqb (e + 1) n) before None)) (eqb_no e (n + 1) above)

pub slot_before : {S : Type 0} (n : ℕ) (before : Option S) (own after : S) (e : ℕ) → e + 1 ≡ n → slot n before own after e ≡ before
slot_before n before own after e is =
    not_near n before own after e (λ wrong. omega (arith, is, wrong)) (λ wrong. omega (arith, is, wrong)) ∙ ap (λ t. cond t before None) (eq-eqb (e + 1) n is)

slot_none : {S : Type 0} (n : ℕ) (before : Option S) (own after : S) (e : ℕ) → e ≢ n → e ≢ n + 1 → (e + 1) ≢ n → slot n before own after e ≡ None
slot_none n before own after e differ above below =
    not_near n before own after e differ above ∙ ap (λ t. cond t before None) (eqb_no (e + 1) n below)

-- which of the three it is
pub slot_cases : {S : Type 0} (n : ℕ) (before : Option S) (own after : S) (e : ℕ) (s : S) → slot n before own after e ≡ Some s
    → ((e ≡ n) × (own ≡ s)) ⊎ (((e ≡ n + 1) × (after ≡ s)) ⊎ ((e + 1 ≡ n) × (before ≡ Some s)))
slot_cases {S} n before own after e s at = first (eqb e n) refl
  where
    Found : Type 0
    Found = ((e ≡ n) × (own ≡ s)) ⊎ (((e ≡ n + 1) × (after ≡ s)) ⊎ ((e + 1 ≡ n) × (before ≡ Some s)))

    third : (t : Bool) → eqb (e + 1) n ≡ t → e ≢ n → e ≢ n + 1 → ((e ≡ n) × (own ≡ s)) ⊎ (((e ≡ n + 1) × (after ≡ s)) ⊎ ((e + 1 ≡ n) × (before ≡ Some s)))
    third true is differ above = let is_it : e + 1 ≡ n = eqb-true (e + 1) n is in inr (inr (is_it, sym (slot_before n before own after e is_it) ∙ at))
    third false is differ above =
        let none : None ≡ Some s = sym (slot_none n before own after e differ above (λ same. let yes : eqb (e + 1) n ≡ true = eq-eqb (e + 1) n same in let wrong : true ≡ false = sym yes ∙ is in cc (wrong))) ∙ at in
        absurd cc

    second : (t : Bool) → eqb e (n + 1) ≡ t → e ≢ n → ((e ≡ n) × (own ≡ s)) ⊎ (((e ≡ n + 1) × (after ≡ s)) ⊎ ((e + 1 ≡ n) × (before ≡ Some s)))
    second true is differ =
        let is_it : e ≡ n + 1 = eqb-true e (n + 1) is in
        inr (inl (is_it, same_inside after s (sym (slot_after n before own after) ∙ ap (slot n before own after) (sym is_it) ∙ at)))
    second false is differ = third (eqb (e + 1) n) refl differ (λ same. let yes : eqb e (n + 1) ≡ true = eq-eqb e (n + 1) same in let wrong : true ≡ false = sym yes ∙ is in cc (wrong))

    first : (t : Bool) → eqb e n ≡ t → ((e ≡ n) × (own ≡ s)) ⊎ (((e ≡ n + 1) × (after ≡ s)) ⊎ ((e + 1 ≡ n) × (before ≡ Some s)))
    first true is =
        let is_it : e ≡ n = eqb-true e n is in
        inl (is_it, same_inside own s (sym (slot_own n before own after) ∙ ap (slot n before own after) (sym is_it) ∙ at))
    first false is = second (eqb e (n + 1)) refl (λ same. let yes : eqb e n ≡ true = eq-eqb e n same in let wrong : true ≡ false = sym yes ∙ is in cc (wrong))

-- what holds of each of the three holds of what is there
pub slots_all : {S : Type 0} (P : ℕ → S → Type 0) (n : ℕ) (before : Option S) (own after : S) → P n own → P (n + 1) after
    → ((e : ℕ) (s : S) → e + 1 ≡ n → before ≡ Some s → P e s) → (e : ℕ) (s : S) → slot n before own after e ≡ Some s → P e s
slots_all {S} P n before own after of_own of_after of_before e s at =
    elim (slot_cases n before own after e s at) [
      | inl found ↦ subst (λ (x : S). P e x) found.1 (subst (λ f. P f own) (sym found.0) of_own)
      | inr more ↦ elim more [
        | inl found ↦ subst (λ (x : S). P e x) found.1 (subst (λ f. P f after) (sym found.0) of_after)
        | inr found ↦ of_before e s found.0 found.1
      ]
    ]

-- another own one changes that alone
pub slot_other_own : {S : Type 0} (n : ℕ) (before : Option S) (own own' after : S) (f : ℕ) → f ≢ n → slot n before own' after f ≡ slot n before own after f
slot_other_own n before own own' after f differ = not_own n before own' after f differ ∙ sym (not_own n before own after f differ)

pub slot_other_after : {S : Type 0} (n : ℕ) (before : Option S) (own after after' : S) (f : ℕ) → f ≢ n + 1 → slot n before own after' f ≡ slot n before own after f
slot_other_after {S} n before own after after' f differ =
    let rest : Option S = cond (eqb (f + 1) n) before None in
    ap (λ (o : Option S). cond (eqb f n) (Some own) o)
    (ap (λ t. cond t (Some after') rest) (eqb_no f (n + 1) differ) ∙ sym (ap (λ t. cond t (Some after) rest) (eqb_no f (n + 1) differ)))

pub slot_other_before : {S : Type 0} (n : ℕ) (before before' : Option S) (own after : S) (f : ℕ) → (f + 1) ≢ n → slot n before' own after f ≡ slot n before own after f
slot_other_before {S} n before before' own after f differ =
    ap (λ (o : Option S). cond (eqb f n) (Some own) (cond (eqb f (n + 1)) (Some after) o))
    (ap (λ t. cond t before' None) (eqb_no (f + 1) n differ) ∙ sym (ap (λ t. cond t before None) (eqb_no (f + 1) n differ)))

-- the next epoch and the one after: what was there of these and of the one before stays
pub next_kept : {S : Type 0} (n : ℕ) (before : Option S) (own after last : S) (e : ℕ) (s : S) → n ≤ e → slot n before own after e ≡ Some s → slot (n + 1) (Some own) after last e ≡ Some s
next_kept {S} n before own after last e s high at =
    elim (slot_cases n before own after e s at) [
      | inl found ↦
          let below : e + 1 ≡ n + 1 = omega (arith, found.0) in
          slot_before (n + 1) (Some own) after last e below ∙ ap (λ (x : S). Some x) found.1
      | inr more ↦ elim more [
        | inl found ↦ ap (slot (n + 1) (Some own) after last) found.0 ∙ slot_own (n + 1) (Some own) after last ∙ ap (λ (x : S). Some x) found.1
        | inr found ↦ absurd (omega (arith, found.0, high))
      ]
    ]

-- and nothing else is there but what was opened
pub next_each : {S : Type 0} (n : ℕ) (before : Option S) (own after last : S) (e : ℕ) (s : S) → slot (n + 1) (Some own) after last e ≡ Some s
    → (slot n before own after e ≡ Some s) ⊎ ((e ≡ n + 1 + 1) × (last ≡ s))
next_each {S} n before own after last e s at =
    elim (slot_cases (n + 1) (Some own) after last e s at) [
      | inl found ↦ inl (ap (slot n before own after) found.0 ∙ slot_after n before own after ∙ ap (λ (x : S). Some x) found.1)
      | inr more ↦ elim more [
        | inl found ↦ inr found
        | inr found ↦
            let is : e ≡ n = omega (arith, found.0) in
            inl (ap (slot n before own after) is ∙ slot_own n before own after ∙ found.1)
      ]
    ]

-- the same of an epoch further above, of which both were opened: of the one before there is what was the one after
pub far_kept : {S : Type 0} (n m : ℕ) (before : Option S) (own after : S) (before' : Option S) (own' after' : S) (e : ℕ) (s : S) → n + 1 < m → (m ≡ n + 2 → before' ≡ Some after)
    → m ≤ e + 1 → slot n before own after e ≡ Some s → slot m before' own' after' e ≡ Some s
far_kept {S} n m before own after before' own' after' e s far stays high at =
    elim (slot_cases n before own after e s at) [
      | inl found ↦ absurd (omega (arith, found.0, far, high))
      | inr more ↦ elim more [
        | inl found ↦
            let is : m ≡ n + 2 = omega (arith, found.0, far, high) in
            let below : e + 1 ≡ m = omega (arith, found.0, is) in
            slot_before m before' own' after' e below ∙ stays is ∙ ap (λ (x : S). Some x) found.1
        | inr found ↦ absurd (omega (arith, found.0, far, high))
      ]
    ]

pub far_each : {S : Type 0} (n m : ℕ) (before : Option S) (own after : S) (before' : Option S) (own' after' : S) (e : ℕ) (s : S) → n + 1 < m
    → ((x : S) → before' ≡ Some x → (m ≡ n + 2) × (after ≡ x)) → slot m before' own' after' e ≡ Some s
    → (slot n before own after e ≡ Some s) ⊎ (((e ≡ m) × (own' ≡ s)) ⊎ ((e ≡ m + 1) × (after' ≡ s)))
far_each {S} n m before own after before' own' after' e s far was at =
    elim (slot_cases m before' own' after' e s at) [
      | inl found ↦ inr (inl found)
      | inr more ↦ elim more [
        | inl found ↦ inr (inr found)
        | inr found ↦
            let stayed = was s found.1 in
            let is : e ≡ n + 1 = omega (arith, found.0, stayed.0) in
            inl (ap (slot n before own after) is ∙ slot_after n before own after ∙ ap (λ (x : S). Some x) stayed.1)
      ]
    ]
