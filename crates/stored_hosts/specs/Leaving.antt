-- What is removed from a folder where the state of an epoch counts.
use Rattle.std.specs.Prelude.{◌≡◌, ◌⊎◌, ℕ, Bool, true, false, ◌-◌, ◌++◌, ◌∷◌, List, Option, filter, map, nat_lt}
use Rattle.stored_hosts.specs.Acts.{Act, AreDone, FailsAmong}
use Rattle.stored_hosts.specs.Acts.Act.{Removes, Syncs}
use Rattle.stored_hosts.specs.declared.leaving.Layer.{Layer}
use Rattle.stored_hosts.specs.declared.leaving.Layer.TheVariants.{States, Databases}
use Rattle.stored_hosts.specs.declared.names.FileKind.{FileKind}
use Rattle.stored_hosts.specs.declared.names.FileKind.TheVariants.{Database, Log, State, Part}
use Rattle.stored_hosts.specs.declared.names.HostFile.{HostFile}

-- states of epochs before this one, and what was being written, whatever its epoch
abbrev pub is_old_state : ℕ → FileKind → ℕ → Bool
is_old_state counts State epoch = nat_lt epoch counts
is_old_state counts Part epoch = true
is_old_state counts other epoch = false

-- databases, each with its log, of epochs below the one before this one
abbrev pub is_old_database : ℕ → FileKind → ℕ → Bool
is_old_database counts Database epoch = nat_lt epoch (counts - 1)
is_old_database counts Log epoch = nat_lt epoch (counts - 1)
is_old_database counts other epoch = false

abbrev pub goes : Layer → ℕ → HostFile → Bool
goes States counts file = is_old_state counts file.kind file.epoch
goes Databases counts file = is_old_database counts file.kind file.epoch

abbrev pub removals_of : Layer → ℕ → List HostFile → List Act
removals_of layer counts files = map Removes (filter (goes layer counts) files)

-- of these files first the old states, then the folder is synced, then the old databases, and no other
abbrev pub removals : ℕ → List HostFile → List Act
removals counts files = removals_of States counts files ++ (Syncs ∷ removals_of Databases counts files)

module _ {F E : Type 0} (lists : F → List HostFile → Type 0) (unread : F → E → Type 0) (does : F → Act → Option E → F → Type 0) where
  -- all of it was done to the files that the folder had
  abbrev pub HasLeft : ℕ → F → F → Type 0
  HasLeft counts f g = (files : List HostFile) × lists f files × AreDone does f (removals counts files) g

  -- it could not be looked into, and nothing was done; or one of these failed
  abbrev pub FailsToLeave : ℕ → F → E → F → Type 0
  FailsToLeave counts f why g = (unread f why × (g ≡ f)) ⊎ ((files : List HostFile) × lists f files × FailsAmong does f (removals counts files) why g)
