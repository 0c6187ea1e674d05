-- What is found says so of each answer.
use Rattle.std.proofs.Common.{◌≡◌, ℕ, List, Result, Ok, Err, Option, Some, subst}
use Rattle.std.specs.declared.io.Error.{Error}
use Rattle.flow_state.specs.Rows.{Rows}
use Rattle.host_states.specs.declared.head.StateHead.{StateHead}
use Rattle.stored_hosts.specs.Finding.{Counts, Finds, IsBest, IsOther}
use Rattle.stored_hosts.specs.Surveying.{AreRead, Surveys}
use Rattle.stored_hosts.specs.declared.fault.FolderFault.{FolderFault}
use Rattle.stored_hosts.specs.declared.fault.FolderFault.TheVariants.{NoStore, OtherNode, OtherMembers, OtherPlaces}
use Rattle.stored_hosts.specs.declared.fault.FolderFault.TheVariants.{Damaged, Unread, Refused, OutOfMemory}
use Rattle.stored_hosts.specs.declared.finding.Found.{Found}
use Rattle.stored_hosts.specs.declared.finding.Found.TheVariants.{Nothing, Whole}
use Rattle.stored_hosts.specs.declared.finding.StateFile.{StateFile}
use Rattle.stored_hosts.specs.declared.finding.WhichHost.{WhichHost}
use Rattle.stored_hosts.specs.declared.names.HostFile.{HostFile}

-- the best of all states counts
pub counts_of : (states : List StateFile) (best : Option (StateHead × Rows)) (head : StateHead) (rows : Rows) → best ≡ Some (head, rows) → IsBest states best → Counts states head rows
counts_of states best head rows is counts = subst (IsBest states) is counts

-- a state that counts and is another host's
pub found_other : (which : WhichHost) (files : List HostFile) (states : List StateFile) (head : StateHead) (rows : Rows) (fault : FolderFault) → Counts states head rows → IsOther which head fault
    → Finds which files states (Err fault)
found_other which files states head rows (NoStore lacking) counts other = absurd other
found_other which files states head rows (OtherNode told) counts other = (head, rows, counts, other)
found_other which files states head rows (OtherMembers told) counts other = (head, rows, counts, other)
found_other which files states head rows (OtherPlaces told) counts other = (head, rows, counts, other)
found_other which files states head rows (Damaged last) counts other = absurd other
found_other which files states head rows (Unread epoch why) counts other = absurd other
found_other which files states head rows (Refused why) counts other = absurd other
found_other which files states head rows OutOfMemory counts other = absurd other

module _ {F : Type 0} (holds : F → HostFile → List ℕ → Type 0) (unread : F → Error → Type 0) (lists : F → List HostFile → Type 0) (which : WhichHost) (f : F)
    (files : List HostFile) (states : List StateFile) (listed : lists f files) (read : AreRead holds unread f files states) where
  -- what is found in what was read
  pub surveyed : (found : Result Found FolderFault) → Finds which files states found → Surveys holds unread lists which f found
  surveyed (Ok Nothing) finds = (files, states, listed, read, finds)
  surveyed (Ok (Whole start)) finds = (files, states, listed, read, finds)
  surveyed (Err (NoStore lacking)) finds = (files, states, listed, read, finds)
  surveyed (Err (OtherNode told)) finds = (files, states, listed, read, finds)
  surveyed (Err (OtherMembers told)) finds = (files, states, listed, read, finds)
  surveyed (Err (OtherPlaces told)) finds = (files, states, listed, read, finds)
  surveyed (Err (Damaged last)) finds = (files, states, listed, read, finds)
  surveyed (Err (Unread epoch why)) finds = absurd finds
  surveyed (Err (Refused why)) finds = absurd finds
  surveyed (Err OutOfMemory) finds = tt
