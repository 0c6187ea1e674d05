-- The greatest epoch of some states.
use Rattle.std.proofs.Common.{◌≡◌, ◌≢◌, ◌∙◌, ◌⊎◌, sym, subst, inl, inr, ℕ, ◌+◌, ◌<◌, ◌≤◌, max, List, [], ◌∷◌, ◌++◌}
use Rattle.std.proofs.Common.{length, take, take_all, get_or, ap, arith}
use Rattle.std.specs.Prelude.{Contains}
use Rattle.std.proofs.Math.Nat.{le-max_left, le-max_right, max-eq_left, max-eq_right}
use Rattle.std.proofs.lemmas.Bool.{cases_lt}
use Rattle.std.proofs.lemmas.List.{take_more}
use Rattle.std.proofs.lemmas.List.Elements.{Contains-append_left, Contains-push, Contains-push_cases}
use Rattle.stored_hosts.specs.Finding.{IsGreatest}
use Rattle.stored_hosts.specs.declared.finding.StateFile.{StateFile}

-- there are none of these, and it is 0, or it is their greatest
abbrev pub IsGreatestOf : List StateFile → ℕ → Type 0
IsGreatestOf these epoch = ((these ≡ []) × (epoch ≡ 0)) ⊎ IsGreatest these epoch

module _ (these : List StateFile) (file : StateFile) (epoch : ℕ) where
  each : ((other : StateFile) → Contains these other → other.epoch ≤ epoch) → (other : StateFile) → Contains (these ++ file ∷ []) other → other.epoch ≤ max epoch file.epoch
  each below other has =
      elim (Contains-push_cases these file other has) [
        | inl earlier ↦ let low = below other earlier in let high = le-max_left epoch file.epoch in omega (arith, low, high)
        | inr last ↦ subst (λ (f : StateFile). f.epoch ≤ max epoch file.epoch) last (le-max_right epoch file.epoch)
      ]

  -- of one more it is the greater of both
  pub greatest_next : IsGreatestOf these epoch → IsGreatest (these ++ file ∷ []) (max epoch file.epoch)
  greatest_next (inl none) = record {
    is = (file, Contains-push these file, sym (max-eq_right (omega (arith, none.1))));
    greatest = each (λ other has. absurd (no_other other (subst (λ t. Contains t other) none.0 has)));
  }
    where
      no_other : (other : StateFile) → ¬ Contains [] other
      no_other other (k, within, is) = omega (arith, within)
  greatest_next (inr it) = elim (cases_lt epoch file.epoch) [
    | inl below ↦ record { is = (file, Contains-push these file, sym (max-eq_right (omega (arith, below)))); greatest = each it.greatest }
    | inr above ↦ record { is = (it.is.0, Contains-append_left these (file ∷ []) it.is.0 it.is.1, it.is.2 ∙ sym (max-eq_left above)); greatest = each it.greatest }
  ]

pub greatest_more : (files : List StateFile) (i : ℕ) (file : StateFile) → i < length files → get_or files i file ≡ file → (old new : ℕ) → new ≡ max old file.epoch → IsGreatestOf (take i files) old → IsGreatestOf (take (i + 1) files) new
greatest_more files i file within here old new is it =
    inr (subst (λ t. IsGreatest t new) (sym (take_more files i file within ∙ ap (λ (f : StateFile). take i files ++ f ∷ []) here))
    (subst (λ e. IsGreatest (take i files ++ file ∷ []) e) (sym is) (greatest_next (take i files) file old it)))

-- of all that there are
pub greatest_whole : (files : List StateFile) (i epoch : ℕ) → length files ≤ i → files ≢ [] → IsGreatestOf (take i files) epoch → IsGreatest files epoch
greatest_whole files i epoch all some it = elim (subst (λ t. IsGreatestOf t epoch) (take_all i files all) it) [
  | inl none ↦ absurd (some none.0)
  | inr is ↦ is
]
