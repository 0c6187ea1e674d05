-- A folder that is made a new host's.
use Rattle.std.proofs.Common.{◌≡◌, ℕ, Bool, List, [], Option, None, Result, Ok, Err, OnOk, subst₂, sym}
use Rattle.folder_hosts.specs.Databases.{OpensDatabase}
use Rattle.folder_hosts.specs.Starting.{AreUnused, BeginsFolder, HasNoState, first_head}
use Rattle.host_states.specs.States.{state_bytes}
use Rattle.stored_hosts.specs.Acts.{Act, AreDone}
use Rattle.stored_hosts.specs.Committing.{commit_of}
use Rattle.stored_hosts.specs.declared.names.HostFile.{HostFile}
use Rattle.stored_nodes.specs.declared.start.StartFault.{StartFault}

module _ {F D E : Type 0} (lists : F → List HostFile → Type 0) (does : F → Act → Option E → F → Type 0) (opens : D → ℕ → Bool → Option StartFault → D → Type 0)
    (tells : D → ℕ → Option StartFault → Type 0) (places : ℕ) (member_of : D → ℕ × ℕ) where
  -- each step was done behind those before it
  pub begins_folder : {R W : Type 0} (f mid g : F) (d one two e : D) (known : ℕ) (files : List HostFile) (r : Result R W) → lists f files → HasNoState files → AreUnused tells d files
      → OpensDatabase opens 0 1 d None one → OpensDatabase opens known 2 one None two → known ≡ 0 → e ≡ two → mid ≡ f → member_of two ≡ member_of d
      → OnOk r (AreDone does mid (commit_of 1 (state_bytes (first_head places (member_of two)) [])) g) → OnOk r (BeginsFolder lists does opens tells places (member_of d) f d g e)
  begins_folder f mid g d one two e known files (Err why) listed fresh unused first second none same here member done = tt
  begins_folder f mid g d one two e known files (Ok x) listed fresh unused first second none same here member done = record {
    files = files;
    listed = listed;
    fresh = fresh;
    unused = unused;
    mid = one;
    first = first;
    second = subst₂ (λ k t. OpensDatabase opens k 2 one None t) none (sym same) second;
    state = subst₂ (λ h m. AreDone does h (commit_of 1 (state_bytes (first_head places m) [])) g) here member done;
  }
