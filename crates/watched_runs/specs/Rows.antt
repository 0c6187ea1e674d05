-- A run in rows: an event each, with all that it brought.
use Rattle.std.specs.Prelude.{◌≡◌, ℕ, ◌+◌, List, [], ◌∷◌, Option, length, take, drop}
use Rattle.ballots.specs.declared.letters.Letter.{Letter}
use Rattle.world_events.specs.declared.event.Event.{Event}
use Rattle.world_events.specs.declared.event.Event.TheVariants.{Deliver, DeliverThenCrash}
use Rattle.seats.specs.declared.answer.Answer.{Answer}
use Rattle.seats.specs.declared.answer.ReleasedOutput.{ReleasedOutput}
use Rattle.seats.specs.declared.answer.Transmission.{Transmission}
use Rattle.network_script.specs.Next.{Next}
use Rattle.network_script.specs.World.{Written, opening}
use Rattle.watched_runs.specs.Sights.{sight}
use Rattle.watched_runs.specs.declared.mark.Stage.{Stage}
use Rattle.watched_runs.specs.declared.sight.Sight.{Sight}

-- an event of a run: its number, that of the script's event that brought it, what it did, the letter that it delivers,
-- the letters and the outputs that it brought, and what is seen of the node that it asks; letters are numbered from a
-- number on
pub record Row : Type 0 where
  pub number : ℕ
  pub step : ℕ
  pub event : Event
  pub answer : Answer
  pub came : ℕ × List Letter
  pub sent : ℕ × List Letter
  pub released : List ReleasedOutput
  pub sight : Option Sight

-- a run: its rows, which of them each event of the script brought, and the letters, outputs and transmissions that it left
pub record Seen : Type 0 where
  pub rows : List Row
  pub stages : List Stage
  pub letters : List Letter
  pub outputs : List ReleasedOutput
  pub transmissions : List Transmission

-- the letter that an event delivers, of those that were sent before, with its number: one, or none
abbrev pub came_by : List Letter → Event → ℕ × List Letter
came_by sent (Deliver i) = (i, take 1 (drop i sent))
came_by sent (DeliverThenCrash i) = (i, take 1 (drop i sent))
came_by sent other = (0, [])

-- the row of an event between one world and the next: what it brought is what the next world has more
abbrev pub row_of : (number step : ℕ) → Event → Answer → (w w' : Written) → Row
row_of n step event answer w w' = record {
  number = n;
  step = step;
  event = event;
  answer = answer;
  came = came_by w.letters event;
  sent = (length w.letters, drop (length w.letters) w'.letters);
  released = drop (length w.outputs) w'.outputs;
  sight = sight event w w';
}

-- in a world of so many members these events may happen so, one after another: their rows are these, numbered from n on
abbrev pub GoesInRows : (members n : ℕ) → Written → List Event → List Row → Written → Type 0
GoesInRows members n w [] [] w' = w' ≡ w
GoesInRows members n w (event ∷ events) (row ∷ rows) w' =
    (mid : Written) × Next members w event row.answer mid × (row ≡ row_of n row.step event row.answer w mid) × GoesInRows members (n + 1) mid events rows w'
GoesInRows members n w events rows w' = ⊥

-- over so many fresh nodes and new modems of these ids the events may happen so, and leave a world with these lists
abbrev pub IsRun : (members : ℕ) → (ids : List ℕ) → List Event → Seen → Type 0
IsRun members ids events run =
    (w : Written) × GoesInRows members 0 (opening members ids) events run.rows w
    × (run.letters ≡ w.letters) × (run.outputs ≡ w.outputs) × (run.transmissions ≡ w.transmissions)
