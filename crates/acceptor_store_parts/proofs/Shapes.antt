-- Votes and learned values by the rows that show them.
use Rattle.std.proofs.Common.{◌≡◌, ℕ, List, [], ◌∷◌, map, ◌==◌, filter, Some, true, false, refl, sym, ◌∙◌, arith, inl}
use Rattle.std.proofs.Common.{inr}
use Rattle.acceptor_store_parts.proofs.Words.{nat_tests, Cast, at, at_here, at_before, at_after, vote_shown}
use Rattle.acceptor_store_parts.proofs.Words.{learned_shown, first_of}
use Rattle.ballots.proofs.Callers.{in_order}
use Rattle.acceptor_store_parts.proofs.Images.{same_lists}

pub same_shown : (v w : ℕ × Cast) → vote_shown v ≡ vote_shown w → v ≡ w
same_shown v w e =
    let place : v.0 ≡ w.0 = cc in
    let ballot : v.1.ballot ≡ w.1.ballot = cc in
    let value : v.1.value ≡ w.1.value = cc in
    λ i. (place i, record { ballot = ballot i; value = value i })

pub all_shown : (vs ws : List (ℕ × Cast)) → map vote_shown vs ≡ map vote_shown ws → vs ≡ ws
all_shown = same_lists vote_shown same_shown

pub same_learned : (v w : ℕ × List ℕ) → learned_shown v ≡ learned_shown w → v ≡ w
same_learned v w e =
    let place : v.0 ≡ w.0 = cc in
    let value : v.1 ≡ w.1 = cc in
    λ i. (place i, value i)

pub all_learned_shown : (vs ws : List (ℕ × List ℕ)) → map learned_shown vs ≡ map learned_shown ws → vs ≡ ws
all_learned_shown = same_lists learned_shown same_learned

-- the first of those at the place is what stands there
pub first_at : {V : Type 0} (p : ℕ) (rows : List (ℕ × V)) → first_of (filter (λ v. v.0 == p) rows) ≡ at rows p
first_at p [] = refl
first_at p (v ∷ rows) = elim (in_order p v.0) [
  | inl lt ↦
      let other : (v.0 == p) ≡ false = grind (arith, nat_tests) in
      let step : first_of (filter (λ w. w.0 == p) (v ∷ rows)) ≡ first_of (filter (λ w. w.0 == p) rows) = rw other refl in
      step ∙ (first_at p rows ∙ sym (at_before v.0 v.1 rows p lt))
  | inr (inl is) ↦
      let here : (v.0 == p) ≡ true = grind (arith, nat_tests) in
      let step : first_of (filter (λ w. w.0 == p) (v ∷ rows)) ≡ Some v.1 = rw here refl in
      step ∙ sym (at_here v.0 v.1 rows p is)
  | inr (inr gt) ↦
      let other : (v.0 == p) ≡ false = grind (arith, nat_tests) in
      let step : first_of (filter (λ w. w.0 == p) (v ∷ rows)) ≡ first_of (filter (λ w. w.0 == p) rows) = rw other refl in
      step ∙ (first_at p rows ∙ sym (at_after v.0 v.1 rows p gt))
]
