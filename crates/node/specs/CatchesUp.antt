-- A node that is told of more catches up.
use Rattle.std.specs.Prelude.{◌≡◌, ℕ, ◌<◌, true, List, [], ◌∷◌, take, Some}
use Rattle.ballots.specs.Rows.{at, rows_from}
use Rattle.ballots.specs.Voting.{IsIn}
use Rattle.ballots.specs.declared.letters.Letter.{Letter}
use Rattle.node.specs.View.{View}
use Rattle.node.specs.Step.{is_place, is_value, letters_told, receive}

-- what node n is after these letters came, one after another
abbrev pub after_all : ℕ → ℕ → View → List Letter → View
after_all members n view [] = view
after_all members n view (l ∷ letters) = after_all members n (receive members n view l).view letters

-- values of the log, at its places
abbrev pub AreOfLog : List (ℕ × List ℕ) → Type 0
AreOfLog rows = (p : ℕ) (v : List ℕ) → IsIn rows (p, v) → (is_place p ≡ true) × (is_value v ≡ true)

-- what both have at a place is one value
abbrev pub Agree : List (ℕ × List ℕ) → List (ℕ × List ℕ) → Type 0
Agree rows others = (p : ℕ) (v w : List ℕ) → IsIn rows (p, v) → IsIn others (p, w) → v ≡ w

-- node n takes all letters by which node me tells it what it has learned from place q on: then each value that was told
-- is learned there
abbrev pub CatchesUp : Type 0
CatchesUp =
    (members me n q : ℕ) (learned : List (ℕ × List ℕ)) (view : View) → me < members → n < members
    → AreOfLog learned → Agree learned learned → Agree view.tally.learned learned
    → (p : ℕ) (v : List ℕ) → IsIn (take 64 (rows_from learned q)) (p, v)
    → at (after_all members n view (letters_told members me learned n q)).tally.learned p ≡ Some v
