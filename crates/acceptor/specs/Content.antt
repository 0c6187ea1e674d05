-- What a node keeps on stable storage, and the one write that a call may make.
use Rattle.std.specs.Prelude.{ℕ, ◌+◌, ◌≤◌, max, List, [], ◌∷◌, Option, Some, None}
use Rattle.std.specs.List.{AllByRecursion}
use Rattle.ballots.specs.declared.letters.Cast.{Cast}
use Rattle.ballots.specs.Limits.{IsValue, most_places}
use Rattle.ballots.specs.Rows.{put}
use Rattle.ballots.specs.Voting.{Entry}
use Rattle.ballots.specs.Voting.Entry.{Promised, Vote}

-- stable content: the highest ballot that was tried, the promised row, one vote a place, and one learned value a place
pub record Content : Type 0 where
  pub tried : ℕ
  pub row : ℕ
  pub votes : List (ℕ × Cast)
  pub learned : List (ℕ × List ℕ)

-- the greatest of a number and the ballots of these votes
abbrev pub greatest : ℕ → List (ℕ × Cast) → ℕ
greatest m [] = m
greatest m (vote ∷ votes) = max vote.1.ballot (greatest m votes)

-- the promised ballot: the greatest of the promised row and of all votes' ballots
abbrev pub promised : Content → ℕ
promised c = greatest c.row c.votes

-- rows at places of the log from p on, each at a later place than the one before
abbrev pub AreRowsFrom : {V : Type 0} → ℕ → List (ℕ × V) → Type 0
AreRowsFrom p [] = Unit {0}
AreRowsFrom p (row ∷ rows) = (p ≤ row.0) × (row.0 ≤ most_places) × AreRowsFrom (row.0 + 1) rows

-- each of the rows has a value of the log
abbrev pub AreValues : List (ℕ × List ℕ) → Type 0
AreValues rows = AllByRecursion (λ row. IsValue row.1) rows

-- its votes and its learned values stand at places of the log, by ascending place, and what is learned are values of
-- the log
abbrev pub IsSound : Content → Type 0
IsSound c = AreRowsFrom 1 c.votes × AreRowsFrom 1 c.learned × AreValues c.learned

-- nothing was tried, promised, voted for or learned
abbrev pub no_content : Content
no_content = record { tried = 0; row = 0; votes = []; learned = [] }

-- one write changes one row
pub data Write : Type 0 where
  Tries : (ballot : ℕ) → Write
  Promises : (ballot : ℕ) → Write
  Votes : (place : ℕ) (cast : Cast) → Write
  Learns : (place : ℕ) (value : List ℕ) → Write

-- the content after the write of a call, if it makes one
abbrev pub after_write : Content → Option Write → Content
after_write c None = c
after_write c (Some (Tries b)) = record c { tried = b }
after_write c (Some (Promises b)) = record c { row = b }
after_write c (Some (Votes p cast)) = record c { votes = put c.votes p cast }
after_write c (Some (Learns p v)) = record c { learned = put c.learned p v }

-- what a write of node n adds to the voting history, in which the newest entry comes first
abbrev pub record_write : ℕ → Option Write → List Entry → List Entry
record_write n None h = h
record_write n (Some (Tries b)) h = h
record_write n (Some (Promises b)) h = Promised n b ∷ h
record_write n (Some (Votes p cast)) h = Vote n cast.ballot p cast.value ∷ h
record_write n (Some (Learns p v)) h = h
