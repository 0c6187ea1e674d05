-- The beginning of a life of a process that is a node.
use Rattle.std.specs.Prelude.{◌≡◌, ℕ, List, ◌++◌}
use Rattle.acceptor.specs.Content.{Content}
use Rattle.node.specs.View.{View}
use Rattle.node_lives.specs.Lives.{IsKilled, IsLife}
use Rattle.node_service.specs.declared.outgoing.Reply.{Reply}
use Rattle.node_worker.specs.Entries.{EntryView}
use Rattle.node_worker.specs.declared.entry.Ask.TheVariants.{Crash}
use Rattle.node_worker.specs.declared.entry.Cause.TheVariants.{Ask as Asked}

-- the first turns of a life are a life too, at the end of which the node may be killed by a crash that leaves its content
abbrev pub BeginningsAreLives : Type 0
BeginningsAreLives =
    (members me : ℕ) (c : Content) (turns later : List (List ℕ × Reply)) (done : List EntryView) (view : View) → IsLife members me c (turns ++ later) done view
    → (first : List EntryView) × (mid : View) × (crash : EntryView) × IsLife members me c turns first mid × (crash.cause ≡ Asked Crash) × IsKilled members me mid crash mid.content
