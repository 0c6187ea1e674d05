-- Leases that are named: the one of a modem and tag, and the names with one more lease.
use Rattle.std.proofs.Common.{◌≡◌, ◌≢◌, ℕ, ◌≤◌, true, false, cond, not, ◌&&◌, List, length, slice_get, Option, Some}
use Rattle.std.proofs.Common.{None, refl, sym, ap, ◌∙◌, eqb, ltb, arith}
use Rattle.std.specs.List.{find}
use Rattle.std.specs.Option.{option_map_or}
use Rattle.std.proofs.lemmas.Bool.{eqb-true, and_parts, false_from_ne_true}
use Rattle.std.proofs.lemmas.Option.{same_Some}
use Rattle.flow_state.specs.Rows.{Lease}
use Rattle.flow_state.specs.StoredLeases.{Names, AreNamedFrom, AreNamed, NameLeases, named, is_after, is_lease_from}
use Rattle.flow_state.specs.StoredLeases.{put_at}
use Rattle.flow_state.proofs.Puts.{find_placed, find_nowhere, at_put, other_put}

module _ (start modem tag : ℕ) (es : Names) (ls : List Lease) (are : AreNamedFrom start es ls) where
  here : (q : ℕ) (m : Lease) → slice_get ls q ≡ Some m → is_lease_from start modem tag m ≡ true → named es modem tag ≡ Some q
  here q m e is =
      let first = and_parts (eqb m.modem modem && eqb m.tag tag) (not (ltb m.last start)) is in
      let second = and_parts (eqb m.modem modem) (eqb m.tag tag) first.0 in
      let end = first.1 in
      let le : start ≤ m.last = grind (arith, end) in
      let of_modem : m.modem ≡ modem = eqb-true m.modem modem second.0 in
      let of_tag : m.tag ≡ tag = eqb-true m.tag tag second.1 in
      sym (ap (λ n. named es n m.tag) of_modem ∙ ap (named es modem) of_tag) ∙ are q m e le

  pub named_found : (k : ℕ) (l : Lease) → named es modem tag ≡ Some k → slice_get ls k ≡ Some l → is_lease_from start modem tag l ≡ true → find (is_lease_from start modem tag) ls ≡ Some l
  named_found k l name e is =
      find_placed (is_lease_from start modem tag) ls k l e is (λ q m lt f.
      false_from_ne_true (is_lease_from start modem tag m) (λ g. let same : k ≡ q = same_Some k q (sym name ∙ here q m f g) in omega arith))

  pub named_nowhere : ((k : ℕ) (l : Lease) → named es modem tag ≡ Some k → slice_get ls k ≡ Some l → is_lease_from start modem tag l ≡ false) → find (is_lease_from start modem tag) ls ≡ None
  named_nowhere none =
      find_nowhere (is_lease_from start modem tag) ls (λ q m f.
      false_from_ne_true (is_lease_from start modem tag m) (λ g. let off = none q m (here q m f g) f in cc))

  -- as a look-up by name finds it
  pub found_at : (place from : ℕ) (l : Lease) → Some place ≡ named es modem tag → from ≡ place → Some l ≡ slice_get ls from → true ≡ is_lease_from start modem tag l → Some l ≡ find (is_lease_from start modem tag) ls
  found_at place from l name at e is = sym (named_found place l (sym name) (ap (slice_get ls) (sym at) ∙ sym e) (sym is))

  pub no_place : None ≡ named es modem tag → None ≡ find (is_lease_from start modem tag) ls
  no_place name = sym (named_nowhere (λ k l f e. absurd (let is : None ≡ Some k = name ∙ f in cc)))

  pub no_lease : (place from : ℕ) → Some place ≡ named es modem tag → from ≡ place → None ≡ slice_get ls from → None ≡ find (is_lease_from start modem tag) ls
  no_lease place from name at none = sym (named_nowhere (λ k l f e. let same : place ≡ k = same_Some place k (name ∙ f) in absurd (let is : None ≡ Some l = none ∙ ap (slice_get ls) (at ∙ same) ∙ e in cc)))

  pub other_lease : (place from : ℕ) (o : Lease) → Some place ≡ named es modem tag → from ≡ place → Some o ≡ slice_get ls from → false ≡ is_lease_from start modem tag o → None ≡ find (is_lease_from start modem tag) ls
  other_lease place from o name at stands is = sym (named_nowhere (λ k l f e.
      let same : place ≡ k = same_Some place k (name ∙ f) in
      let lease : o ≡ l = same_Some o l (stands ∙ ap (slice_get ls) (at ∙ same) ∙ e) in
      ap (is_lease_from start modem tag) (sym lease) ∙ sym is))

-- ---- without the name of a lease that stood at a place

pub place_named : (o : Option ℕ) (place : ℕ) → true ≡ option_map_or (λ p. eqb p place) o false → o ≡ Some place
place_named (Some p) place e = ap (λ (n : ℕ). Some n) (eqb-true p place (sym e))
place_named None place e = absurd cc

pub kept_name : (es : Names) (modem tag place m t p : ℕ) → named es modem tag ≡ Some place → named es m t ≡ Some p → p ≢ place → cond (eqb modem m && eqb tag t) None (named es m t) ≡ Some p
kept_name es modem tag place m t p was is apart =
    elim (eqb modem m && eqb tag t) as (λ b. (eqb modem m && eqb tag t) ≡ b → cond b None (named es m t) ≡ Some p) [
      | true ↦ λ g.
          let parts = and_parts (eqb modem m) (eqb tag t) g in
          let of_modem : modem ≡ m = eqb-true modem m parts.0 in
          let of_tag : tag ≡ t = eqb-true tag t parts.1 in
          absurd (apart (same_Some p place (sym is ∙ sym (ap (λ n. named es n tag) of_modem ∙ ap (named es m) of_tag) ∙ was)))
      | false ↦ λ g. is
    ] refl

pub fewer_names : (es : Names) (modem tag m t p : ℕ) → cond (eqb modem m && eqb tag t) None (named es m t) ≡ Some p → named es m t ≡ Some p
fewer_names es modem tag m t p e =
    elim (eqb modem m && eqb tag t) as (λ b. cond b None (named es m t) ≡ Some p → named es m t ≡ Some p) [ true ↦ λ f. absurd cc | false ↦ λ f. f ] e

pub one_holder : (a b c d : ℕ) → true ≡ (eqb a b && eqb c d) → (a ≡ b) × (c ≡ d)
one_holder a b c d e = let parts = and_parts (eqb a b) (eqb c d) (sym e) in (eqb-true a b parts.0, eqb-true c d parts.1)

pub none_named : (o : Option ℕ) (place : ℕ) → o ≡ None → o ≡ Some place → ⊥
none_named o place none is = cc

-- ---- with a lease put at a place

module _ (ls : List Lease) (place : ℕ) (l : Lease) (before after : Option ℕ) (es added fs : Names) (named_before : Option ℕ)
    (within : place ≤ length ls)
    (are : AreNamed before es ls)
    (was : named_before ≡ named es l.modem l.tag)
    (own : named added l.modem l.tag ≡ Some place)
    (others : (m t : ℕ) → (eqb l.modem m && eqb l.tag t) ≡ false → named added m t ≡ named es m t)
    (own_kept : named fs l.modem l.tag ≡ named added l.modem l.tag)
    (kept : (m t p : ℕ) → named added m t ≡ Some p → p ≢ place → named fs m t ≡ Some p)
    (later : (n : ℕ) → is_after after n ≡ true → is_after before n ≡ true)
    (ended : (p : ℕ) (o : Lease) → named_before ≡ Some p → slice_get ls p ≡ Some o → is_after after o.last ≡ false)
  where
    pub named_put : AreNamed after fs (put_at ls place l)
    named_put p m e is =
        elim (eqb p place) as (λ b. eqb p place ≡ b → named fs m.modem m.tag ≡ Some p) [
          | true ↦ λ f.
              let same : p ≡ place = eqb-true p place f in
              let lease : m ≡ l = same_Some m l (sym e ∙ ap (slice_get (put_at ls place l)) same ∙ at_put ls place l within) in
              rw (lease, same) (own_kept ∙ own)
          | false ↦ λ f.
              let apart : p ≢ place = grind (arith, f) in
              let stood : slice_get ls p ≡ Some m = sym (other_put ls place l p within apart) ∙ e in
              let name : named es m.modem m.tag ≡ Some p = are p m stood (later m.last is) in
              elim (eqb l.modem m.modem && eqb l.tag m.tag) as (λ b. (eqb l.modem m.modem && eqb l.tag m.tag) ≡ b → named fs m.modem m.tag ≡ Some p) [
                | true ↦ λ g.
                    let parts = and_parts (eqb l.modem m.modem) (eqb l.tag m.tag) g in
                    let of_modem : l.modem ≡ m.modem = eqb-true l.modem m.modem parts.0 in
                    let of_tag : l.tag ≡ m.tag = eqb-true l.tag m.tag parts.1 in
                    absurd (let over = ended p m (was ∙ ap (λ n. named es n l.tag) of_modem ∙ ap (named es m.modem) of_tag ∙ name) stood in cc)
                | false ↦ λ g. kept m.modem m.tag p (others m.modem m.tag g ∙ name) apart
              ] refl
        ] refl

module _ (ls : List Lease) (place : ℕ) (l : Lease) (es added fs : Names)
    (within : place ≤ length ls)
    (are : NameLeases es ls)
    (own : named added l.modem l.tag ≡ Some place)
    (others : (m t : ℕ) → (eqb l.modem m && eqb l.tag t) ≡ false → named added m t ≡ named es m t)
    (fewer : (m t p : ℕ) → named fs m t ≡ Some p → named added m t ≡ Some p)
    (gone : (b : Lease) → slice_get ls place ≡ Some b → named fs b.modem b.tag ≡ Some place → (b.modem ≡ l.modem) × (b.tag ≡ l.tag))
  where
    same_holder : (a b c d : ℕ) → a ≡ b → c ≡ d → (eqb a b && eqb c d) ≡ false → ⊥
    same_holder a b c d e f g =
        let first : eqb a b ≡ true = grind (arith, e) in
        let second : eqb c d ≡ true = grind (arith, f) in
        let on : (eqb a b && eqb c d) ≡ true = ap (λ q. q && eqb c d) first ∙ second in
        cc

    pub names_put : NameLeases fs (put_at ls place l)
    names_put m t p e =
        elim (eqb l.modem m && eqb l.tag t) as (λ b. (eqb l.modem m && eqb l.tag t) ≡ b → (o : Lease) × (slice_get (put_at ls place l) p ≡ Some o) × (o.modem ≡ m) × (o.tag ≡ t)) [
          | true ↦ λ g.
              let is = one_holder l.modem m l.tag t (sym g) in
              let same : place ≡ p = same_Some place p (sym own ∙ ap (λ n. named added n l.tag) is.0 ∙ ap (named added m) is.1 ∙ fewer m t p e) in
              (l, ap (slice_get (put_at ls place l)) (sym same) ∙ at_put ls place l within, is.0, is.1)
          | false ↦ λ g. stood g (are m t p (sym (others m t g) ∙ fewer m t p e))
        ] refl
      where
        stood : (eqb l.modem m && eqb l.tag t) ≡ false → (o : Lease) × (slice_get ls p ≡ Some o) × (o.modem ≡ m) × (o.tag ≡ t) → (o : Lease) × (slice_get (put_at ls place l) p ≡ Some o) × (o.modem ≡ m) × (o.tag ≡ t)
        stood g (o, stands, of_modem, of_tag) =
            elim (eqb p place) as (λ b. eqb p place ≡ b → (o : Lease) × (slice_get (put_at ls place l) p ≡ Some o) × (o.modem ≡ m) × (o.tag ≡ t)) [
              | true ↦ λ f.
                  let same : p ≡ place = eqb-true p place f in
                  let holder = gone o (ap (slice_get ls) (sym same) ∙ stands) (ap (λ n. named fs n o.tag) of_modem ∙ ap (named fs m) of_tag ∙ e ∙ ap (λ (n : ℕ). Some n) same) in
                  absurd (same_holder l.modem m l.tag t (sym holder.0 ∙ of_modem) (sym holder.1 ∙ of_tag) g)
              | false ↦ λ f. let apart : p ≢ place = grind (arith, f) in (o, other_put ls place l p within apart ∙ stands, of_modem, of_tag)
            ] refl
