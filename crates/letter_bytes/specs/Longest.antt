-- How long a letter within the log's limits may be.
use Rattle.std.specs.Prelude.{◌≡◌, ℕ, ◌+◌, ◌*◌, ◌≤◌, List, [], ◌∷◌, length, map, All}
use Rattle.ballots.specs.Limits.{IsValue, most_places, longest_value}
use Rattle.ballots.specs.declared.letters.Cast.{Cast}
use Rattle.ballots.specs.declared.letters.Letter.{Letter}
use Rattle.ballots.specs.declared.letters.Note.{Note}
use Rattle.ballots.specs.declared.letters.Note.TheVariants.{Prepare, Promise, Accept, Voted, Higher, Known}
use Rattle.letter_bytes.specs.Spelling.{votes_reported}

-- the values that a note carries
abbrev pub values_carried : Note → List (List ℕ)
values_carried (Prepare b p) = []
values_carried (Promise b p votes) = map (λ row. row.1.value) votes
values_carried (Accept b p v) = v ∷ []
values_carried (Voted b p v) = v ∷ []
values_carried (Higher b) = []
values_carried (Known p v) = v ∷ []

-- a letter reports a vote a place at most, and each of its values is one of the log
pub record IsWithinLimits (l : Letter) : Type 0 where
  pub votes : length (votes_reported l.note) ≤ most_places
  pub values : All IsValue (values_carried l.note)

-- a promise that reports a vote at each place, for a value of the greatest length
pub record ReportsAll (l : Letter) : Type 0 where
  pub ballot : ℕ
  pub place : ℕ
  pub votes : List (ℕ × Cast)
  pub note : l.note ≡ Promise ballot place votes
  pub all : length votes ≡ most_places
  pub values : All (λ row. length row.1.value ≡ longest_value) votes

-- three bytes, a ballot, a place and how many votes; and for each place a vote: its place, its ballot, its value's
-- length and bytes
abbrev pub longest_letter : ℕ
longest_letter = (3 + 3 * 8) + most_places * (3 * 8 + longest_value)
