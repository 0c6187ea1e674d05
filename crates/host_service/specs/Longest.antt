-- How many votes a promise reports within an epoch.
use Rattle.std.specs.Prelude.{◌≡◌, ℕ, ◌≤◌, List, length, map, All}
use Rattle.ballots.specs.Limits.{IsValue}
use Rattle.ballots.specs.declared.letters.Cast.{Cast}
use Rattle.ballots.specs.declared.letters.Letter.{Letter}
use Rattle.ballots.specs.declared.letters.Note.TheVariants.{Promise}

-- a promise that reports a vote a place at most, of so many places, each for a value of the log
pub record IsPromiseWithin (places : ℕ) (l : Letter) : Type 0 where
  pub ballot : ℕ
  pub place : ℕ
  pub votes : List (ℕ × Cast)
  pub note : l.note ≡ Promise ballot place votes
  pub few : length votes ≤ places
  pub values : All IsValue (map (λ row. row.1.value) votes)
