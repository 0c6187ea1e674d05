-- The letters that a node sends.
use Rattle.std.specs.Prelude.{ℕ, zero, suc, ◌+◌, List, [], ◌∷◌, ◌++◌}
use Rattle.ballots.specs.Rows.{at}
use Rattle.ballots.specs.declared.letters.Cast.{Cast}
use Rattle.ballots.specs.declared.letters.Note.{Note}
use Rattle.ballots.specs.declared.letters.Note.TheVariants.{Accept}
use Rattle.ballots.specs.declared.letters.Letter.{Letter}
use Rattle.proposer.specs.Joining.{proposal}

abbrev pub letter : ℕ → ℕ → Note → Letter
letter from to note = record { from = from; to = to; note = note }

-- one letter to each member, by ascending number
abbrev pub to_all : ℕ → ℕ → Note → List Letter
to_all zero from note = []
to_all (suc n) from note = to_all n from note ++ letter from n note ∷ []

-- Accept letters of ballot b for the n places from p on, by ascending place
abbrev pub proposals : ℕ → ℕ → ℕ → List (ℕ × Cast) → ℕ → ℕ → List Letter
proposals members me b joined p zero = []
proposals members me b joined p (suc n) = to_all members me (Accept b p (proposal (at joined p))) ++ proposals members me b joined (p + 1) n
