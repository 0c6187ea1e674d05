-- What is counted, one place further.
use Rattle.std.proofs.Common.{◌≡◌, ◌∙◌, ℕ, zero, suc, ◌+◌, ◌<◌, ◌≤◌, Bool, true, false, List, [], ◌∷◌, cond, drop}
use Rattle.std.proofs.Common.{length, nat_eq, refl, ap, arith}
use Rattle.std.specs.List.{starts_with}
use Rattle.node_journal.specs.Counts.{life_begin, lives_in}

-- the lives from a place on: one if a life begins there, and those behind it
pub lives_step : (text : List ℕ) (i : ℕ) → i < length text → lives_in (drop i text) ≡ cond (starts_with nat_eq (drop i text) life_begin) 1 0 + lives_in (drop (i + 1) text)
lives_step [] i within = absurd (omega (arith, within))
lives_step (byte ∷ rest) zero within = refl
lives_step (byte ∷ rest) (suc i) within =
    lives_step rest i (omega (arith, within)) ∙ ap (λ k. cond (starts_with nat_eq (drop i rest) life_begin) 1 0 + lives_in (drop k (byte ∷ rest))) (further i)
  where
    further : (i : ℕ) → suc (i + 1) ≡ suc i + 1
    further i = omega arith

-- one life begins at a place at most
pub one_at_most : (b : Bool) → cond b 1 0 ≤ 1
one_at_most true = omega arith
one_at_most false = omega arith
