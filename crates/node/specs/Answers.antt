-- The letters of an acceptor's answers.
use Rattle.std.specs.Prelude.{◌≡◌, ℕ, List, [], ◌∷◌}
use Rattle.ballots.specs.declared.letters.Letter.{Letter}
use Rattle.ballots.specs.declared.letters.Note.TheVariants.{Voted as VotedNote, Higher as HigherNote}
use Rattle.ballots.specs.declared.letters.Note.{Note}
use Rattle.ballots.specs.declared.letters.Note.TheVariants.{Promise}
use Rattle.acceptor.specs.declared.acceptor.Prepared.{Prepared}
use Rattle.acceptor.specs.declared.acceptor.Prepared.TheVariants.{Promised, Higher as Refused}
use Rattle.acceptor.specs.declared.acceptor.Accepted.{Accepted}
use Rattle.acceptor.specs.declared.acceptor.Accepted.TheVariants.{Voted, Higher}
use Rattle.node.specs.Step.{letter, to_all}

-- the letters of an answer to an Accept of ballot b at p from node n
abbrev pub accepted_letters : ℕ → ℕ → ℕ → ℕ → ℕ → Accepted → List Letter
accepted_letters members me n b p (Voted told) = to_all members me (VotedNote b p told)
accepted_letters members me n b p (Higher other) = letter me n (HigherNote other) ∷ []

-- an answer that tells another value than v, or a higher ballot, wrote nothing
abbrev pub WroteNothing : Accepted → List ℕ → Type 0
WroteNothing (Voted told) v = told ≡ v → ⊥
WroteNothing (Higher other) v = Unit {0}

-- what an answer to a Prepare of ballot b for the places from q on says
abbrev pub prepared_note : ℕ → ℕ → Prepared → Note
prepared_note b q (Promised votes) = Promise b q votes
prepared_note b q (Refused other) = HigherNote other
