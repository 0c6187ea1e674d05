-- How rows are cut from the lists of the world that a run left.
use Rattle.std.specs.Prelude.{ℕ, ◌+◌, List, [], ◌∷◌, length, take, drop}
use Rattle.ballots.specs.declared.letters.Letter.{Letter}
use Rattle.world_events.specs.declared.event.Event.{Event}
use Rattle.seats.specs.declared.answer.ReleasedOutput.{ReleasedOutput}
use Rattle.seats.specs.declared.answer.Answer.{Answer}
use Rattle.network_script.specs.World.{Written}
use Rattle.watched_runs.specs.Rows.{Row, Seen, came_by}
use Rattle.watched_runs.specs.Sights.{sight}
use Rattle.watched_runs.specs.declared.mark.Mark.{Mark}
use Rattle.watched_runs.specs.declared.mark.Marks.{Marks}

-- what is between two indexes of a list
abbrev pub between : {A : Type 0} → ℕ × ℕ → List A → List A
between bounds items = drop bounds.0 (take bounds.1 items)

-- the row of an event at which this was noted
abbrev pub row_at : ℕ → Event → Mark → List Letter → List ReleasedOutput → Row
row_at n event mark letters outputs = record {
  number = n;
  step = mark.step;
  event = event;
  answer = mark.answer;
  came = came_by (take mark.letters.0 letters) event;
  sent = (mark.letters.0, between mark.letters letters);
  released = between mark.outputs outputs;
  sight = mark.sight;
}

-- the rows of events at which these were noted, numbered from n on
abbrev pub rows_from : ℕ → List Event → List Mark → List Letter → List ReleasedOutput → List Row
rows_from n [] marks letters outputs = []
rows_from n (event ∷ events) [] letters outputs = []
rows_from n (event ∷ events) (mark ∷ marks) letters outputs = row_at n event mark letters outputs ∷ rows_from (n + 1) events marks letters outputs

-- what is noted of an event of this number between one world and the next
abbrev pub noted : ℕ → Event → Answer → (w w' : Written) → Mark
noted step event answer w w' = record {
  step = step;
  answer = answer;
  letters = (length w.letters, length w'.letters);
  outputs = (length w.outputs, length w'.outputs);
  sight = sight event w w';
}

-- the run of events that left this world
abbrev pub seen_in : List Event → Marks → Written → Seen
seen_in events marks w = record {
  rows = rows_from 0 events marks.marks.items w.letters w.outputs;
  stages = marks.stages.items;
  letters = w.letters;
  outputs = w.outputs;
  transmissions = w.transmissions;
}
