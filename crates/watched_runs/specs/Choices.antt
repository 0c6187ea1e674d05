-- Which letters show that a value is chosen, to one who hears each vote as it is sent.
use Rattle.std.specs.Prelude.{ℕ, Bool, true, false, List, [], ◌∷◌, Option, Some, None}
use Rattle.ballots.specs.declared.letters.Letter.{Letter}
use Rattle.ballots.specs.declared.letters.Note.{Note}
use Rattle.ballots.specs.declared.letters.Note.TheVariants.{Voted}
use Rattle.ballots.specs.Rows.{at}
use Rattle.learner.specs.Tally.{Tally, counts, learn, no_tally, teaches}

-- whether node n's vote for v at p in ballot b makes a majority there, where none was before
abbrev pub completes : ℕ → Tally → (b p : ℕ) → List ℕ → ℕ → Bool
completes members tally b p v n = teaches members tally (at tally.learned p) b p v n

-- what is counted after that vote
abbrev pub heard_if : Bool → Tally → (b p : ℕ) → List ℕ → ℕ → Tally
heard_if true tally b p v n = learn tally p v
heard_if false tally b p v n = counts tally (at tally.learned p) b p v n

abbrev pub heard_vote : ℕ → Tally → (b p : ℕ) → List ℕ → ℕ → Tally
heard_vote members tally b p v n = heard_if (completes members tally b p v n) tally b p v n

-- the place that it shows to be chosen
abbrev pub shown_if : Bool → ℕ → Option ℕ
shown_if true p = Some p
shown_if false p = None

abbrev pub shown_vote : ℕ → Tally → (b p : ℕ) → List ℕ → ℕ → Option ℕ
shown_vote members tally b p v n = shown_if (completes members tally b p v n) p

-- the same of a letter: only a vote is counted
abbrev pub heard_note : ℕ → Tally → ℕ → Note → Tally
heard_note members tally n (Voted b p v) = heard_vote members tally b p v n
heard_note members tally n other = tally

abbrev pub heard : ℕ → Tally → Letter → Tally
heard members tally l = heard_note members tally l.from l.note

abbrev pub shown_note : ℕ → Tally → ℕ → Note → Option ℕ
shown_note members tally n (Voted b p v) = shown_vote members tally b p v n
shown_note members tally n other = None

abbrev pub shown : ℕ → Tally → Letter → Option ℕ
shown members tally l = shown_note members tally l.from l.note

-- for each letter the place that it shows to be chosen
abbrev pub choices_from : ℕ → Tally → List Letter → List (Option ℕ)
choices_from members tally [] = []
choices_from members tally (l ∷ letters) = shown members tally l ∷ choices_from members (heard members tally l) letters

abbrev pub choices : ℕ → List Letter → List (Option ℕ)
choices members letters = choices_from members no_tally letters
