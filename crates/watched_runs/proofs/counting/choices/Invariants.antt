use Rattle.std.proofs.Common.{◌≡◌, ◌++◌, drop}
use Rattle.ballots.specs.Members.{member_count}
use Rattle.watched_runs.specs.Choices.{choices, choices_from}
use Rattle.watched_runs.proofs.counting.choices.Given as goal

-- the places so far and those of the letters that are left are those of all
abbrev pub invariant-loop-letter : goal.invariant-loop-letter
invariant-loop-letter l =
    l.places.items ++ choices_from (member_count l.members) l.learner (drop l.letter-index l.letters) ≡ choices (member_count l.members) l.letters
