-- Votes within the log.
use Rattle.std.specs.Prelude.{ℕ, ◌≤◌, nat_le, List, filter}
use Rattle.std.specs.List.{All}
use Rattle.std.specs.Map.{keys_of}
use Rattle.ballots.specs.Limits.{most_places}
use Rattle.ballots.specs.declared.letters.Cast.{Cast}

-- no vote is at a place beyond the log
abbrev pub AreInLog : List (ℕ × Cast) → Type 0
AreInLog votes = All (λ place. place ≤ most_places) (keys_of votes)

-- the votes at places that aren't beyond the log
abbrev pub in_log : List (ℕ × Cast) → List (ℕ × Cast)
in_log votes = filter (λ vote. nat_le vote.0 most_places) votes
