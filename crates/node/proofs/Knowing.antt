-- What a node has learned after one value more.
use Rattle.std.proofs.Common.{◌≡◌, ◌⊎◌, inl, inr, ℕ, ◌≤◌, List, Option, Some, None, refl, sym, ap, subst, ◌∙◌}
use Rattle.ballots.specs.Rows.{at, put}
use Rattle.learner.specs.Tally.{Tally, known}
use Rattle.command_log.specs.Values.{Rows, outputs_of_values, gapless, values_from}
use Rattle.command_log.specs.View.{AreRows, IsLog, LogView}
use Rattle.command_log.proofs.Callers.{are_rows_put, outputs_first}
use Rattle.std.proofs.Common.{length, take, ◌+◌, arith, length-take}
use Rattle.ballots.specs.Limits.{most_places}
use Rattle.map_release.specs.Released.{applied_outputs}
use Rattle.node.specs.Learned.{IsPart, AreLearned}
use Rattle.node.proofs.Prefixes.{part_grows, front}

-- nothing is learned, or one value at a place that had none
abbrev LearnsOne : Tally → Rows → ℕ → List ℕ → Type 0
LearnsOne tally new p v = (new ≡ tally.learned) ⊎ ((at tally.learned p ≡ None) × (new ≡ put tally.learned p v))

known_one : (tally : Tally) (o : Option (List ℕ)) (p : ℕ) (v : List ℕ) → at tally.learned p ≡ o → LearnsOne tally (known tally o p v).learned p v
known_one tally None p v none = inr (none, refl)
known_one tally (Some w) p v some = inl refl

-- a value more
module _ (tally : Tally) (p : ℕ) (v : List ℕ) (lo : 1 ≤ p) (hi : p ≤ most_places) (are : AreRows 1 tally.learned) where
  pub known_rows : AreRows 1 (known tally (at tally.learned p) p v).learned
  known_rows = elim (known_one tally (at tally.learned p) p v refl) [
    | inl is ↦ subst (AreRows 1) (sym is) are
    | inr learns ↦ subst (AreRows 1) (sym learns.1) (are_rows_put 1 p v tally.learned are lo hi)
  ]

  module _ (log : Rows) (part : IsPart log tally.learned) (none : at tally.learned p ≡ None) (new : Rows) (is : new ≡ put tally.learned p v) where
    pub learn_keeps : AreRows 1 new × IsPart log new
    learn_keeps = (subst (AreRows 1) (sym is) (are_rows_put 1 p v tally.learned are lo hi), subst (IsPart log) (sym is) (part_grows log tally.learned p v part none))

-- places that are learned stay so
pub are_learned : (first second : Rows) (n : ℕ) → IsPart first second → AreLearned first n → AreLearned second n
are_learned first second n part are p lo hi none = by_value (at first p) refl
  where
    by_value : (o : Option (List ℕ)) → at first p ≡ o → ⊥
    by_value None is = are p lo hi is
    by_value (Some v) is = let there : at second p ≡ Some v = part p v is in cc (none, there)

-- a log to which all of these are applied
module _ (log : LogView) (learned : Rows) (is_log : IsLog log) (are : AreRows 1 learned) (part : IsPart log.learned learned) (end : at learned (log.applied + 1) ≡ None) where
  same_values : take log.applied (gapless log.learned) ≡ gapless learned
  same_values = front 1 log.applied log.learned learned is_log.rows are part is_log.gapless (let place : 1 + log.applied ≡ log.applied + 1 = omega arith in ap (at learned) place ∙ end)

  pub same_outputs : applied_outputs log ≡ outputs_of_values (values_from 1 learned)
  same_outputs = sym (outputs_first log.applied (gapless log.learned)) ∙ ap outputs_of_values same_values

  pub same_length : log.applied ≡ length (values_from 1 learned)
  same_length = omega (arith, ap length same_values, is_log.gapless, length-take log.applied (gapless log.learned))
