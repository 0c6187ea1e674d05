use Rattle.std.proofs.Common.{◌≡◌, ◌++◌, ◌≤◌, ℕ, List}
use Rattle.ballots.specs.declared.letters.Letter.{Letter}
use Rattle.network_script.specs.World.{Written}
use Rattle.network_script.specs.Worlds.{AreHonest, StandsFor, node_count}
use Rattle.script_steps.specs.declared.entry.Entry.TheVariants.{All}
use Rattle.watched_runs.specs.Following.{GoesOn, HasGone}
use Rattle.watched_runs.specs.Rows.{Row}
use Rattle.watched_runs.specs.Steps.{AreRounds, after, begun}
use Rattle.watched_runs.proofs.stepping.note_all.Given as goal

abbrev pub invariant-loop-round : goal.invariant-loop-round
invariant-loop-round g l = record {
  within : l._round ≤ l.all.rounds;
  honesty : AreHonest l.world → AreHonest l.fn.world;
  members : node_count l.world ≡ node_count l.fn.world;
  run : AreHonest l.world → (members : ℕ) (w0 w : Written) (rows : List Row) → StandsFor l.fn.world w → HasGone members w0 l.fn.course rows w
      → (mid : Written) × (more : List Row) × StandsFor l.world mid × GoesOn members w0 l.course rows more w mid
      × ((ls : List Letter) → AreRounds (mid.letters ++ ls) l.number (All l.all) l._round (after begun rows) more);
}
