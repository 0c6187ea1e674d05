use Rattle.std.proofs.Common.{◌≡◌, ◌++◌, [], List, length}
use Rattle.std.specs.Vec.Iter.{into_iter_items}
use Rattle.ballots.specs.declared.letters.Letter.{Letter}
use Rattle.network_script.specs.World.{Written}
use Rattle.network_script.specs.Worlds.{AreHonest, StandsFor, node_count}
use Rattle.script_steps.specs.declared.entry.Entry.{Entry}
use Rattle.watched_runs.specs.Following.{HasGone}
use Rattle.watched_runs.specs.Rows.{Row}
use Rattle.watched_runs.specs.Steps.{MeansPlain, begun}
use Rattle.watched_runs.proofs.stepping.note_entries.Given as goal

abbrev pub invariant-loop-entry : goal.invariant-loop-entry
invariant-loop-entry g l = record {
  honesty : AreHonest l.world → AreHonest l.fn.world;
  run : AreHonest l.world → (w : Written) → StandsFor l.fn.world w → w.letters ≡ []
      → (mid : Written) × (done : List Entry) × (rows : List Row) × (done ++ into_iter_items l.entry-iterator ≡ l.fn.entries.items) × (length l.stages.items ≡ length done)
      × HasGone (length w.nodes) w l.course rows mid × ((ls : List Letter) → MeansPlain (mid.letters ++ ls) 0 begun done l.stages.items rows) × StandsFor l.world mid;
}
