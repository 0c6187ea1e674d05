-- The outputs that a log shows, as a list.
use Rattle.std.proofs.Common.{◌≡◌, ◌⊎◌, inl, inr, ℕ, zero, suc, ◌-◌, ◌<◌, ◌≤◌, true, false, cond, ◌&&◌, nat_le, List}
use Rattle.std.proofs.Common.{[], ◌∷◌, take, None, slice_get, refl, sym, ap, ◌∙◌, arith}
use Rattle.std.proofs.lemmas.Bool.{cases_lt, le-leb, lt-leb}
use Rattle.command_log.specs.Values.{gapless, outputs_of_values}
use Rattle.command_log.specs.View.{LogView, output_at}

get_take : {X : Type 0} (n i : ℕ) (xs : List X) → i < n → slice_get (take n xs) i ≡ slice_get xs i
get_take zero i xs lt = absurd (omega arith)
get_take (suc n) i [] lt = refl
get_take (suc n) zero (x ∷ xs) lt = refl
get_take (suc n) (suc i) (x ∷ xs) lt = get_take n i xs (omega arith)

past_take : {X : Type 0} (n i : ℕ) (xs : List X) → n ≤ i → slice_get (take n xs) i ≡ None
past_take zero i xs le = refl
past_take (suc n) i [] le = refl
past_take (suc n) zero (x ∷ xs) le = absurd (omega arith)
past_take (suc n) (suc i) (x ∷ xs) le = past_take n i xs (omega arith)

-- the output of a place is the one among those of the applied values
pub output_among : (v : LogView) (place : ℕ) → (place ≡ 0 → ⊥) → output_at v place ≡ slice_get (take v.applied (outputs_of_values (gapless v.learned))) (place - 1)
output_among v place some = by_place (cases_lt v.applied place)
  where
    by_place : (v.applied < place) ⊎ (place ≤ v.applied) → output_at v place ≡ slice_get (take v.applied (outputs_of_values (gapless v.learned))) (place - 1)
    by_place (inl past) =
        ap (λ b. cond (nat_le 1 place && b) (slice_get (outputs_of_values (gapless v.learned)) (place - 1)) None) (lt-leb place v.applied past)
        ∙ ap (λ b. cond (b && false) (slice_get (outputs_of_values (gapless v.learned)) (place - 1)) None) (le-leb 1 place (omega arith))
        ∙ sym (past_take v.applied (place - 1) (outputs_of_values (gapless v.learned)) (omega arith))
    by_place (inr within) =
        ap (λ b. cond (nat_le 1 place && b) (slice_get (outputs_of_values (gapless v.learned)) (place - 1)) None) (le-leb place v.applied within)
        ∙ ap (λ b. cond (b && true) (slice_get (outputs_of_values (gapless v.learned)) (place - 1)) None) (le-leb 1 place (omega arith))
        ∙ sym (get_take v.applied (place - 1) (outputs_of_values (gapless v.learned)) (omega arith))
