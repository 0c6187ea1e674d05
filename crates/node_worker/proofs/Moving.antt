-- An entry of a node is an event of the written world.
use Rattle.std.proofs.Common.{◌≡◌, ℕ, List, ◌++◌, Option, Some, slice_get, slice_set, refl, sym, ap, subst}
use Rattle.ballots.specs.declared.letters.Letter.{Letter}
use Rattle.map_release.specs.declared.numbered.Numbered.{Numbered}
use Rattle.node.specs.View.{Standing}
use Rattle.world_events.specs.declared.event.Event.{Event}
use Rattle.seats.specs.declared.answer.Answer.{Answer}
use Rattle.seats.specs.Moves.{Ask, Move, Moves}
use Rattle.network_script.specs.World.{Written, released_by}
use Rattle.network_script.specs.Next.{Next, OfNode, Comes, after}
use Rattle.node.specs.Calls.Cause.{Receive as Received}
use Rattle.seats.specs.Moves.Ask.{Call}
use Rattle.node_worker.specs.declared.entry.Ask.TheVariants.{Lead, Offer, Tell, Release, Crash, Restart}
use Rattle.node_worker.specs.declared.entry.Cause.{Cause}
use Rattle.node_worker.specs.declared.entry.Cause.TheVariants.{Ask as Asked, Letter as Came}
use Rattle.node_worker.specs.Entries.{EntryView}
use Rattle.node_worker.specs.Replays.{EntryStep, answer_of, ask_of}
use Rattle.node_worker.specs.Runs.{IsEvent}

-- the world w' is w where node k stands at t and these letters and outputs went out, whatever the history
pub record Left (w : Written) (k : ℕ) (t : Standing) (letters : List Letter) (outputs : List Numbered) (w' : Written) : Type 0 where
  pub nodes : w'.nodes ≡ slice_set w.nodes k t
  pub sent : w'.letters ≡ w.letters ++ letters
  pub given : w'.outputs ≡ w.outputs ++ released_by k outputs
  pub modems : w'.modems ≡ w.modems
  pub transmissions : w'.transmissions ≡ w.transmissions

-- node k is there, and moves so
of_node : (members : ℕ) (w : Written) (k : ℕ) (s : Standing) (ask : Ask) (told : Answer) (m : Move) → slice_get w.nodes k ≡ Some s → Moves members k s ask told m → OfNode members w k (slice_get w.nodes k) ask told (after w k m)
of_node members w k s ask told m at moves = subst (λ (o : Option Standing). OfNode members w k o ask told (after w k m)) (sym at) (m, moves, refl)

-- what a cause asks is an event
is_next : (members : ℕ) (w : Written) (k : ℕ) (s : Standing) (cause : Cause) (told : Answer) (m : Move) (e : Event) → slice_get w.nodes k ≡ Some s → Moves members k s (ask_of cause) told m → IsEvent w.letters k cause e → Next members w e told (after w k m)
is_next members w k s (Asked Lead) told m e at moves is = subst (λ (x : Event). Next members w x told (after w k m)) (sym is) (of_node members w k s (ask_of (Asked Lead)) told m at moves)
is_next members w k s (Asked (Offer value)) told m e at moves is = subst (λ (x : Event). Next members w x told (after w k m)) (sym is) (of_node members w k s (ask_of (Asked (Offer value))) told m at moves)
is_next members w k s (Asked (Tell to place)) told m e at moves is = subst (λ (x : Event). Next members w x told (after w k m)) (sym is) (of_node members w k s (ask_of (Asked (Tell to place))) told m at moves)
is_next members w k s (Asked (Release now)) told m e at moves is = subst (λ (x : Event). Next members w x told (after w k m)) (sym is) (of_node members w k s (ask_of (Asked (Release now))) told m at moves)
is_next members w k s (Asked Crash) told m e at moves is = subst (λ (x : Event). Next members w x told (after w k m)) (sym is) (of_node members w k s (ask_of (Asked Crash)) told m at moves)
is_next members w k s (Asked Restart) told m e at moves is = subst (λ (x : Event). Next members w x told (after w k m)) (sym is) (of_node members w k s (ask_of (Asked Restart)) told m at moves)
is_next members w k s (Came l) told m e at moves (i, sent, to, is) =
    subst (λ (x : Event). Next members w x told (after w k m)) (sym is)
    (subst (λ (o : Option Letter). Comes members w o (λ n. Call (Received n)) told (after w k m)) (sym sent)
    (subst (λ (n : ℕ). OfNode members w n (slice_get w.nodes n) (Call (Received l)) told (after w k m)) (sym to) (of_node members w k s (Call (Received l)) told m at moves)))

-- an entry of a node, read as an event, is one of the written world
pub entry_moves : (members : ℕ) (w : Written) (k : ℕ) (s t : Standing) (x : EntryView) (e : Event)
    → slice_get w.nodes k ≡ Some s → EntryStep members k s x t → IsEvent w.letters k x.cause e
    → (w' : Written) × Next members w e (answer_of x.cause x.ended x.letters x.outputs) w' × Left w k t x.letters x.outputs w'
entry_moves members w k s t x e at (survived, m, moves, stands, letters, outputs) is = (
  after w k m,
  is_next members w k s x.cause (answer_of x.cause x.ended x.letters x.outputs) m e at moves is,
  record {
    nodes = ap (λ u. slice_set w.nodes k u) stands;
    sent = ap (λ ls. w.letters ++ ls) letters;
    given = ap (λ os. w.outputs ++ released_by k os) outputs;
    modems = refl;
    transmissions = refl;
  },
)
