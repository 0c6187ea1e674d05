-- Which journals are legal.
use Rattle.std.specs.Prelude.{◌≡◌, ℕ, List, [], length, slice_get, Some}
use Rattle.ballots.specs.Members.{member_count}
use Rattle.ballots.specs.declared.members.Members.{Members}
use Rattle.node_journal.specs.declared.phase.Phase.{Phase}
use Rattle.node_journal.specs.Journal.{Writes}
use Rattle.node_worker.specs.Legal.{IsSound, entries_of}
use Rattle.node_worker.specs.Runs.{AreLegal}
use Rattle.node_worker.specs.declared.entry.Done.{Done}

-- there is a journal of each member, these records are a sound order of what the members did, and each journal is what
-- its member wrote as it did its part
pub record AreLinesOf (members : Members) (journals : List (List ℕ)) (records : List Done) : Type 0 where
  pub each : length journals ≡ member_count members
  pub sound : IsSound (member_count members) records
  pub written : (k : ℕ) (journal : List ℕ) → slice_get journals k ≡ Some journal → (phase : Phase) × Writes k members journal (entries_of k records) phase

-- the journals are the lines of legal records
abbrev pub AreLegalJournals : Members → List (List ℕ) → Type 0
AreLegalJournals members journals = (records : List Done) × AreLinesOf members journals records

-- records of which journals are the lines are legal: read as events they are a run, and so they have one schedule
abbrev pub LinesAreLegal : Type 0
LinesAreLegal = (members : Members) (journals : List (List ℕ)) (records : List Done)
    → AreLinesOf members journals records → AreLegal (member_count members) records []
