use Rattle.std.proofs.Common.{◌≡◌, ◌++◌, ℕ, List, map}
use Rattle.std.specs.List.{AllZip}
use Rattle.std.specs.Vec.Iter.{into_iter_items}
use Rattle.network_script.specs.World.{Written}
use Rattle.network_script.specs.Worlds.{AreHonest, StandsFor, node_count}
use Rattle.script_steps.specs.Plain.{waiting_but}
use Rattle.world_events.specs.declared.event.Event.TheVariants.{Deliver}
use Rattle.watched_runs.specs.Following.{GoesOn, HasGone}
use Rattle.watched_runs.specs.Rows.{Row}
use Rattle.watched_runs.specs.Steps.{IsOf}
use Rattle.watched_runs.proofs.stepping.note_round.Given as goal

abbrev pub invariant-loop-i : goal.invariant-loop-i
invariant-loop-i g l = record {
  honesty : AreHonest l.world → AreHonest l.fn.world;
  members : node_count l.world ≡ node_count l.fn.world;
  run : AreHonest l.world → (members : ℕ) (w0 w : Written) (rows : List Row) → StandsFor l.fn.world w → HasGone members w0 l.fn.course rows w
      → (mid : Written) × (done : List ℕ) × (more : List Row) × (done ++ into_iter_items l.i-iterator ≡ waiting_but l.all.except w.letters l.fn.course.deliveries.came)
      × StandsFor l.world mid × GoesOn members w0 l.course rows more w mid × AllZip (IsOf l.number) (map Deliver done) more;
}
