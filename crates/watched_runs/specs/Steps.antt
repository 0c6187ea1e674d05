-- Runs of entries: the events that they come to, where a letter is named by what is known of it, or all that wait come.
use Rattle.std.specs.Prelude.{◌≡◌, ℕ, zero, suc, ◌+◌, Bool, true, false, List, [], ◌∷◌, ◌++◌, length, map, take}
use Rattle.std.specs.List.{AllZip}
use Rattle.ballots.specs.declared.letters.Letter.{Letter}
use Rattle.world_events.specs.declared.event.Event.{Event}
use Rattle.script_steps.specs.declared.entry.Entry.{Entry}
use Rattle.script_steps.specs.declared.entry.Entry.TheVariants.{One, All}
use Rattle.script_steps.specs.declared.step.Step.TheVariants.{Plain}
use Rattle.script_steps.specs.Plain.{round_of, rounds_of}
use Rattle.seats.specs.declared.answer.Answer.{Answer}
use Rattle.seats.specs.declared.answer.Answer.TheVariants.{Refused}
use Rattle.network_script.specs.Next.{Run}
use Rattle.network_script.specs.World.{Written, opening}
use Rattle.watched_runs.specs.Rows.{GoesInRows, IsRun, Row, Seen}
use Rattle.watched_runs.specs.declared.mark.Stage.{Stage}

-- a node took the letter that was delivered, whatever became of that
abbrev pub was_taken : Answer → Bool
was_taken (Refused why) = false
was_taken other = true

-- letter i, if there was one and it was taken, came last
abbrev pub came_if : List Letter → Bool → ℕ → List ℕ → List ℕ
came_if [] taken i came = came
came_if (l ∷ ls) false i came = came
came_if (l ∷ ls) true i came = came ++ i ∷ []

-- how far a run came: how many events there were, how many letters were sent, and the numbers of those that came, in
-- order
pub record SoFar : Type 0 where
  pub gone : ℕ
  pub sent : ℕ
  pub came : List ℕ

abbrev pub begun : SoFar
begun = record { gone = 0; sent = 0; came = [] }

-- behind a row, and behind several
abbrev pub after_row : SoFar → Row → SoFar
after_row so row = record {
  gone = so.gone + 1;
  sent = row.sent.0 + length row.sent.1;
  came = came_if row.came.1 (was_taken row.answer) row.came.0 so.came;
}

abbrev pub after : SoFar → List Row → SoFar
after so [] = so
after so (row ∷ rows) = after (after_row so row) rows

-- the row is this event's, which the entry of this number brought
abbrev pub IsOf : ℕ → Event → Row → Type 0
IsOf n event row = (row.event ≡ event) × (row.step ≡ n)

-- the rows are so many rounds of an entry, one after another: each has the events that the entry means by the letters
-- that were sent before the round, and by those of them that came
abbrev pub AreRounds : List Letter → (n : ℕ) → Entry → (rounds : ℕ) → SoFar → List Row → Type 0
AreRounds letters n entry zero so rows = rows ≡ []
AreRounds letters n entry (suc k) so rows =
    (first : List Row) × (rest : List Row) × (rows ≡ first ++ rest)
    × AllZip (IsOf n) (round_of entry (take so.sent letters) so.came) first × AreRounds letters n entry k (after so first) rest

-- which rows an entry brought, by how far the run had come before and behind them
abbrev pub is_all : Entry → Bool
is_all (One step) = false
is_all (All all) = true

abbrev pub stage_of : ℕ → Entry → SoFar → SoFar → Stage
stage_of n entry so later = record { number = n; all = is_all entry; from = so.gone; to = later.gone }

-- each entry, numbered from n on, brings its rows, which are all its rounds
abbrev pub MeansPlain : List Letter → (n : ℕ) → SoFar → List Entry → List Stage → List Row → Type 0
MeansPlain letters n so [] [] rows = rows ≡ []
MeansPlain letters n so (entry ∷ entries) (stage ∷ stages) rows =
    (first : List Row) × (rest : List Row) × (rows ≡ first ++ rest) × AreRounds letters n entry (rounds_of entry) so first
    × (stage ≡ stage_of n entry so (after so first)) × MeansPlain letters (n + 1) (after so first) entries stages rest
MeansPlain letters n so entries stages rows = ⊥

-- over so many fresh nodes and new modems of these ids the entries may come to these events, and those happen so
pub record IsStepRun (members : ℕ) (ids : List ℕ) (entries : List Entry) (events : List Event) (run : Seen) : Type 0 where
  pub goes : IsRun members ids events run
  pub plain : MeansPlain run.letters 0 begun entries run.stages run.rows

-- over so many fresh nodes and new modems of these ids the events may happen so, and leave this world
abbrev pub Leave : (members : ℕ) → (ids : List ℕ) → List Event → Seen → Written → Type 0
Leave members ids events run w = GoesInRows members 0 (opening members ids) events run.rows w

-- what a run of entries is: one of the script of their events, by the answers of its rows
abbrev pub StepRunsAreRuns : Type 0
StepRunsAreRuns =
    (members : ℕ) (ids : List ℕ) (entries : List Entry) (events : List Event) (run : Seen) → IsStepRun members ids entries events run
    → (w : Written) × Run members ids events (map (λ row. row.answer) run.rows) w × (run.letters ≡ w.letters)

-- entries that are events come to these events
abbrev pub PlainStepsAreEvents : Type 0
PlainStepsAreEvents =
    (members : ℕ) (ids : List ℕ) (script events : List Event) (run : Seen) → IsStepRun members ids (map (λ event. One (Plain event)) script) events run → events ≡ script
