-- How a state is put into a folder.
use Rattle.std.specs.Prelude.{◌≡◌, ℕ, List, [], ◌∷◌, Option}
use Rattle.std.specs.declared.io.Error.{Error}
use Rattle.stored_hosts.specs.Acts.{Act, FailsAmong}
use Rattle.stored_hosts.specs.Acts.Act.{Makes, Renames, Syncs, SyncsFile, Writes}
use Rattle.stored_hosts.specs.declared.fault.FolderFault.{FolderFault}
use Rattle.stored_hosts.specs.declared.fault.FolderFault.TheVariants.{Refused, OutOfMemory}
use Rattle.stored_hosts.specs.declared.names.FileKind.{FileKind}
use Rattle.stored_hosts.specs.declared.names.FileKind.TheVariants.{State, Part}
use Rattle.stored_hosts.specs.declared.names.HostFile.{HostFile}

abbrev pub file_of : ℕ → FileKind → HostFile
file_of epoch kind = record { epoch = epoch; kind = kind }

-- these bytes are written under another name and synced; they get the name of the state, and the folder is synced
abbrev pub commit_of : ℕ → List ℕ → List Act
commit_of epoch bytes =
    Makes (file_of epoch Part) ∷ Writes (file_of epoch Part) bytes ∷ SyncsFile (file_of epoch Part)
    ∷ Renames (file_of epoch Part) (file_of epoch State) ∷ Syncs ∷ []

-- one of these failed so, and those behind it weren't tried; or memory ran out, and nothing was done
abbrev pub FailsToCommit : {F : Type 0} → (F → Act → Option Error → F → Type 0) → List Act → F → F → FolderFault → Type 0
FailsToCommit does acts f g (Refused why) = FailsAmong does f acts why g
FailsToCommit does acts f g OutOfMemory = g ≡ f
FailsToCommit does acts f g other = ⊥
