-- The commands that nodes have learned.
use Rattle.std.specs.Prelude.{◌≡◌, ◌≢◌, ℕ, ◌+◌, ◌≤◌, List, [], ◌∷◌, length, Option, Some, None, slice_get}
use Rattle.std.specs.Option.{option_map}
use Rattle.ballots.specs.Rows.{at}
use Rattle.ballots.specs.Voting.{IsChosen}
use Rattle.command_log.specs.Reading.{command_of}
use Rattle.grant_machine.specs.declared.command.Command.{Command}
use Rattle.network_script.specs.Headline.{OfEveryRun}
use Rattle.network_script.specs.World.{Written}
use Rattle.node.specs.View.{Standing}
use Rattle.node.specs.View.Standing.{Running, Stopped}

-- the value that a node has learned at place p: one that is down knows nothing
abbrev pub learned_at : Standing → ℕ → Option (List ℕ)
learned_at (Running view) p = at view.tally.learned p
learned_at (Stopped content doubt) p = None

-- these are the commands of the values that a node has learned at place p and the next ones, up to the first place
-- where it has learned none
abbrev pub AreLearnedFrom : ℕ → Standing → List Command → Type 0
AreLearnedFrom p s [] = learned_at s p ≡ None
AreLearnedFrom p s (c ∷ cs) = (option_map command_of (learned_at s p) ≡ Some c) × AreLearnedFrom (p + 1) s cs

abbrev pub AreLearned : Standing → List Command → Type 0
AreLearned s cs = AreLearnedFrom 1 s cs

-- these are the commands that one of the nodes has learned, and no node has learned more: where there are none, no node
-- that is up has learned place 1
pub record AreMostLearned (nodes : List Standing) (cs : List Command) : Type 0 where
  pub by : cs ≢ [] → (k : ℕ) × (s : Standing) × (slice_get nodes k ≡ Some s) × AreLearned s cs
  pub most : (k : ℕ) (s : Standing) (ds : List Command) → slice_get nodes k ≡ Some s → AreLearned s ds → length ds ≤ length cs

-- ---- the one list

-- in the world that a run leaves, the most that a node has learned are the commands of the values that are chosen at
-- place 1, 2 and so on
abbrev pub MostAreChosen : ℕ → List ℕ → Written → Type 0
MostAreChosen members ids w =
    (cs : List Command) → AreMostLearned w.nodes cs → (i : ℕ) (c : Command) → slice_get cs i ≡ Some c → (v : List ℕ) × IsChosen members w.history (i + 1) v × (command_of v ≡ c)

-- and it doesn't matter of which node they are
abbrev pub MostAreOne : ℕ → List ℕ → Written → Type 0
MostAreOne members ids w = (cs ds : List Command) → AreMostLearned w.nodes cs → AreMostLearned w.nodes ds → cs ≡ ds
