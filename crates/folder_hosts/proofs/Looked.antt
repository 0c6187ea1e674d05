-- What a look over the files of a folder finds.
use Rattle.std.proofs.Common.{◌≡◌, ◌≤◌, ◌<◌, ◌+◌, [], subst, inl, inr, ℕ, List, length, take, take_all, get_or, arith, refl, Bool, false}
use Rattle.std.specs.Prelude.{◌↔◌, Contains, IsTrue}
use Rattle.std.proofs.lemmas.List.{take_more}
use Rattle.std.proofs.lemmas.List.Elements.{Contains-get_or, Contains-push_cases}
use Rattle.folder_hosts.specs.Starting.{HasNoState}
use Rattle.stored_hosts.specs.Committing.{file_of}
use Rattle.stored_hosts.specs.declared.names.FileKind.TheVariants.{State}
use Rattle.stored_hosts.specs.declared.names.HostFile.{HostFile}

-- what holds of none holds of each of more, where it holds of the next one
module _ (P : HostFile → Type 0) where
  abbrev Each : List HostFile → Type 0
  Each files = (file : HostFile) → Contains files file → P file

  pub of_none : Each []
  of_none file (k, within, is) = absurd (omega (arith, within))

  pub of_more : (files : List HostFile) (i : ℕ) (d : HostFile) → i < length files → Each (take i files) → P (get_or files i d) → Each (take (i + 1) files)
  of_more files i d within before here = λ file has.
      elim (Contains-push_cases (take i files) (get_or files i d) file (subst (λ t. Contains t file) (take_more files i d within) has)) [
        | inl earlier ↦ before file earlier
        | inr last ↦ subst P last here
      ]

  pub of_all : (files : List HostFile) (i : ℕ) → length files ≤ i → Each (take i files) → Each files
  of_all files i all each = subst Each (take_all i files all) each

-- no file is a state, where each isn't
abbrev pub IsNoState : HostFile → Type 0
IsNoState file = ¬ (file ≡ file_of file.epoch State)

pub not_state : (file : HostFile) (b : Bool) → IsTrue b ↔ (file ≡ file_of file.epoch State) → b ≡ false → IsNoState file
not_state file b tells other is = cc (other, tells.1 is)

pub no_state : (files : List HostFile) → ((file : HostFile) → Contains files file → IsNoState file) → HasNoState files
no_state files each = λ e has. each (file_of e State) has refl

-- a state among files
pub state_there : (files : List HostFile) (i : ℕ) (d : HostFile) → i < length files → get_or files i d ≡ file_of (get_or files i d).epoch State → Contains files (file_of (get_or files i d).epoch State)
state_there files i d within is = subst (λ f. Contains files f) is (Contains-get_or files i d within)
