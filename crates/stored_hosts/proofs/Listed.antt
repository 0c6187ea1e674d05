-- Which files a list has.
use Rattle.std.proofs.Common.{◌≡◌, refl, sym, subst, inl, inr, ℕ, ◌+◌, ◌<◌, ◌≤◌, List, length, take, take_all, get_or}
use Rattle.std.proofs.Common.{Bool, true, false}
use Rattle.std.specs.Prelude.{◌↔◌, Contains, IsTrue}
use Rattle.std.proofs.lemmas.List.{take_more}
use Rattle.std.proofs.lemmas.List.Elements.{Contains-get_or, Contains-push_cases}
use Rattle.stored_hosts.specs.declared.names.HostFile.{HostFile}

module _ (files : List HostFile) (i : ℕ) (d wanted : HostFile) (r : Bool) (tells : IsTrue r ↔ (get_or files i d ≡ wanted)) where
  -- the file at this place is the one that is wanted
  pub has_here : i < length files → r ≡ true → IsTrue true ↔ Contains files wanted
  has_here within found = (λ _. subst (λ file. Contains files file) (tells.0 (subst (λ b. IsTrue b) (sym found) refl)) (Contains-get_or files i d within), λ _. refl)

  -- or it isn't, and none before it is
  pub none_yet : i < length files → r ≡ false → ¬ Contains (take i files) wanted → ¬ Contains (take (i + 1) files) wanted
  none_yet within other before = λ has.
      elim (Contains-push_cases (take i files) (get_or files i d) wanted (subst (λ t. Contains t wanted) (take_more files i d within) has)) [
        | inl earlier ↦ before earlier
        | inr here ↦ absurd (cc (other, tells.1 here))
      ]

-- none of all is
pub has_none : (files : List HostFile) (i : ℕ) (wanted : HostFile) → length files ≤ i → ¬ Contains (take i files) wanted → IsTrue false ↔ Contains files wanted
has_none files i wanted all none = (λ no. absurd (cc (no)), λ has. absurd (none (subst (λ t. Contains t wanted) (sym (take_all i files all)) has)))
