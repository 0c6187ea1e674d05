-- How entries are followed, event by event.
use Rattle.std.specs.Prelude.{◌≡◌, ℕ, Bool, true, false, List, ◌++◌, length, map, Option, Some, None}
use Rattle.ballots.specs.declared.letters.Letter.{Letter}
use Rattle.world_events.specs.declared.event.Event.{Event}
use Rattle.world_events.specs.declared.event.Event.TheVariants.{Deliver, DeliverThenCrash}
use Rattle.script_steps.specs.declared.entry.Entry.{Entry}
use Rattle.script_steps.specs.Came.{Came, comes, sends}
use Rattle.script_steps.specs.Names.{about_of}
use Rattle.seats.specs.declared.answer.ReleasedOutput.{ReleasedOutput}
use Rattle.network_script.specs.World.{Written}
use Rattle.watched_runs.specs.Marks.{rows_from}
use Rattle.watched_runs.specs.Rows.{GoesInRows, Row, Seen}
use Rattle.watched_runs.specs.Steps.{MeansPlain, after, begun, was_taken}
use Rattle.watched_runs.specs.declared.course.Course.{Course}
use Rattle.watched_runs.specs.declared.mark.Mark.{Mark}

-- the letter that an event delivers
abbrev pub delivered : Event → Option ℕ
delivered (Deliver i) = Some i
delivered (DeliverThenCrash i) = Some i
delivered other = None

-- it came, where it was taken
abbrev pub comes_by : Option ℕ → Bool → Came → Came
comes_by None taken so_far = so_far
comes_by (Some i) false so_far = so_far
comes_by (Some i) true so_far = comes i so_far

-- what was sent and came after an event at which this was noted, where these are all letters now
abbrev pub followed : Event → Mark → List Letter → Came → Came
followed event mark letters so_far = sends letters (comes_by (delivered event) (was_taken mark.answer) so_far)

-- so went, in a world of so many members in which nothing was sent, what a course has of its events, and these are their
-- rows; whatever is sent and released later, they are cut from the world so
pub record HasGone (members : ℕ) (w0 : Written) (course : Course) (rows : List Row) (w : Written) : Type 0 where
  pub nodes : length w.nodes ≡ members
  pub size : length course.marks.items ≡ length course.events.items
  pub goes : GoesInRows members 0 w0 course.events.items rows w
  pub cut : (ls : List Letter) (os : List ReleasedOutput) → rows_from 0 course.events.items course.marks.items (w.letters ++ ls) (w.outputs ++ os) ≡ rows
  pub sent : course.deliveries.sent ≡ map about_of w.letters
  pub stands : after begun rows ≡ record { gone = length course.events.items; sent = length w.letters; came = course.deliveries.came }

-- behind these rows the course went on by more of them, from one world to another
pub record GoesOn (members : ℕ) (w0 : Written) (course : Course) (rows more : List Row) (w w' : Written) : Type 0 where
  pub gone : HasGone members w0 course (rows ++ more) w'
  pub letters : List Letter
  pub sent : w'.letters ≡ w.letters ++ letters

-- in a world of so many members, in which nothing was sent, these entries may come to these events, and those happen so
pub record StepsGo (members : ℕ) (w : Written) (entries : List Entry) (events : List Event) (run : Seen) (w' : Written) : Type 0 where
  pub goes : GoesInRows members 0 w events run.rows w'
  pub plain : MeansPlain w'.letters 0 begun entries run.stages run.rows
