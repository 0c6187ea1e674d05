-- What a host's node was asked is an event of the world of its epoch, and so is that it was killed and started.
use Rattle.std.proofs.Common.{◌≡◌, ◌≢◌, ◌⊎◌, inl, inr, ℕ, List, [], ◌++◌, Option, None, Some, slice_get, slice_set, Contains}
use Rattle.std.proofs.Common.{refl, sym, ap, subst, ◌∙◌}
use Rattle.std.proofs.lemmas.List.{append-nil}
use Rattle.std.proofs.lemmas.Option.{slice_get_within}
use Rattle.acceptor.specs.Content.{Content, Write, after_write}
use Rattle.ballots.specs.declared.letters.Letter.{Letter}
use Rattle.flow_state.proofs.Callers.{contains_at}
use Rattle.map_release.specs.declared.numbered.Numbered.{Numbered}
use Rattle.network_script.proofs.Callers.{get_other, get_same}
use Rattle.network_script.specs.Next.{Comes, Next, OfNode, after}
use Rattle.network_script.specs.World.{Written}
use Rattle.node.specs.Calls.Cause.{Receive as Received}
use Rattle.node.specs.View.{Standing, started}
use Rattle.node.specs.View.Standing.{Running, Stopped}
use Rattle.node_lines.specs.declared.request.Request.{Request}
use Rattle.node_lines.specs.declared.request.Request.TheVariants as request
use Rattle.node_service.specs.Seated.{asked_of}
use Rattle.seats.specs.Acts.{GoesTo}
use Rattle.seats.specs.Moves.{Ask, Move, Moves, quiet}
use Rattle.seats.specs.Moves.Ask.{Call, Crash, Restart}
use Rattle.seats.specs.declared.answer.Answer.{Answer}
use Rattle.seats.specs.declared.answer.Answer.TheVariants.{Finished, Refused}
use Rattle.world_events.specs.declared.event.Event.{Event}
use Rattle.world_events.specs.declared.event.Event.TheVariants as event
use Rattle.world_events.specs.declared.refusal.EventRefusal.TheVariants.{NodeDown}
use Rattle.host_lives.specs.Beginning.{IsLeft}
use Rattle.host_lives.specs.Lives.{IsEvent, IsRestart}

-- the world after an event at which node k came to stand so, and sent this
pub record Happens (members : ℕ) (w : Written) (k : ℕ) (t : Standing) (sent : List Letter) (e : Event) (answer : Answer) : Type 0 where
  pub world : Written
  pub next : Next members w e answer world
  pub nodes : world.nodes ≡ slice_set w.nodes k t
  pub letters : world.letters ≡ w.letters ++ sent

-- node k is there, and moves so
of_node : (members : ℕ) (w : Written) (k : ℕ) (s : Standing) (ask : Ask) (answer : Answer) (m : Move) → slice_get w.nodes k ≡ Some s → Moves members k s ask answer m → OfNode members w k (slice_get w.nodes k) ask answer (after w k m)
of_node members w k s ask answer m at moves = subst (λ (o : Option Standing). OfNode members w k o ask answer (after w k m)) (sym at) (m, moves, refl)

asked_next : (members : ℕ) (w : Written) (k : ℕ) (s : Standing) (asked : Request) (answer : Answer) (m : Move) (e : Event)
    → slice_get w.nodes k ≡ Some s → Moves members k s (asked_of asked) answer m → IsEvent w.letters k asked e → Next members w e answer (after w k m)
asked_next members w k s request.Lead answer m e at moves is = subst (λ (x : Event). Next members w x answer (after w k m)) (sym is) (of_node members w k s (asked_of request.Lead) answer m at moves)
asked_next members w k s (request.Offer value) answer m e at moves is = subst (λ (x : Event). Next members w x answer (after w k m)) (sym is) (of_node members w k s (asked_of (request.Offer value)) answer m at moves)
asked_next members w k s (request.Release now) answer m e at moves is = subst (λ (x : Event). Next members w x answer (after w k m)) (sym is) (of_node members w k s (asked_of (request.Release now)) answer m at moves)
asked_next members w k s (request.Tell to place) answer m e at moves is = subst (λ (x : Event). Next members w x answer (after w k m)) (sym is) (of_node members w k s (asked_of (request.Tell to place)) answer m at moves)
asked_next members w k s (request.Letter l) answer m e at moves (i, sent, to, is) =
    subst (λ (x : Event). Next members w x answer (after w k m)) (sym is)
    (subst (λ (o : Option Letter). Comes members w o (λ n. Call (Received n)) answer (after w k m)) (sym sent)
    (subst (λ (n : ℕ). OfNode members w n (slice_get w.nodes n) (Call (Received l)) answer (after w k m)) (sym to) (of_node members w k s (Call (Received l)) answer m at moves)))

pub happens : (members : ℕ) (w : Written) (k : ℕ) (s t : Standing) (asked : Request) (answer : Answer) (sent : List Letter) (outputs : List Numbered) (e : Event)
    → slice_get w.nodes k ≡ Some s → GoesTo members k s (asked_of asked) answer sent outputs (λ u. u ≡ t) → IsEvent w.letters k asked e → Happens members w k t sent e answer
happens members w k s t asked answer sent outputs e at (m, moves, letters, given, stands) is = record {
  world = after w k m;
  next = asked_next members w k s asked answer m e at moves is;
  nodes = ap (λ (u : Standing). slice_set w.nodes k u) stands;
  letters = ap (λ (ls : List Letter). w.letters ++ ls) letters;
}

-- what was asked is an event, where a letter that comes was sent before
pub event_of : (sent : List Letter) (k : ℕ) (asked : Request) → ((l : Letter) → asked ≡ request.Letter l → (l.to ≡ k) × Contains sent l) → (e : Event) × IsEvent sent k asked e
event_of sent k request.Lead comes = (event.Lead k, refl)
event_of sent k (request.Offer value) comes = (event.Offer k value, refl)
event_of sent k (request.Release now) comes = (event.Release k now, refl)
event_of sent k (request.Tell to place) comes = (event.Tell k to place, refl)
event_of sent k (request.Letter l) comes = let come = comes l refl in let at = contains_at sent l come.1 in (event.Deliver at.0, (at.0, at.1, come.0, refl))

-- the world after node k was killed, and started over this content
pub record Restarts (members : ℕ) (w : Written) (k : ℕ) (c : Content) : Type 0 where
  pub answer : Answer
  pub is : IsRestart k (event.Crash k) (event.Restart k) answer Finished
  pub mid : Written
  pub world : Written
  pub crashes : Next members w (event.Crash k) answer mid
  pub starts : Next members mid (event.Restart k) Finished world
  pub here : slice_get world.nodes k ≡ Some (Running (started c))
  pub others : (j : ℕ) → j ≢ k → slice_get world.nodes j ≡ slice_get w.nodes j
  pub letters : world.letters ≡ w.letters

module _ (members : ℕ) (w : Written) (k : ℕ) (s : Standing) (at : slice_get w.nodes k ≡ Some s) where
  -- it is down then, over this content and with this write in doubt, and starts so
  restarts_by : (d : Content) (doubt : Option Write) (answer : Answer) (m : Move) (c : Content) → (answer ≡ Finished) ⊎ (answer ≡ Refused NodeDown) → Moves members k s Crash answer (quiet (Stopped d doubt))
      → Moves members k (Stopped d doubt) Restart Finished m → m.standing ≡ Running (started c) → m.letters ≡ [] → Restarts members w k c
  restarts_by d doubt answer m c said crashes starts stands sent =
      let mid : Written = after w k (quiet (Stopped d doubt)) in
      let down : slice_get mid.nodes k ≡ Some (Stopped d doubt) = get_same w.nodes k (Stopped d doubt) (slice_get_within w.nodes k s at) in
      record {
        answer = answer;
        is = record { crash = refl; crashed = said; restart = refl; restarted = refl };
        mid = mid;
        world = after mid k m;
        crashes = of_node members w k s Crash answer (quiet (Stopped d doubt)) at crashes;
        starts = of_node members mid k (Stopped d doubt) Restart Finished m down starts;
        here = get_same mid.nodes k m.standing (slice_get_within mid.nodes k (Stopped d doubt) down) ∙ ap (λ (x : Standing). Some x) stands;
        others = λ j other. get_other mid.nodes k j m.standing (λ is. other (sym is)) ∙ get_other w.nodes k j (Stopped d doubt) (λ is. other (sym is));
        letters = ap (λ (ls : List Letter). mid.letters ++ ls) sent ∙ append-nil mid.letters ∙ append-nil w.letters;
      }

  -- it starts over the content, or over what the write in doubt made of it
  over : (d : Content) (doubt : Option Write) (answer : Answer) (c : Content) → (answer ≡ Finished) ⊎ (answer ≡ Refused NodeDown) → Moves members k s Crash answer (quiet (Stopped d doubt))
      → (c ≡ d) ⊎ (c ≡ after_write d doubt) → Restarts members w k c
  over d doubt answer c said crashes (inl is) =
      restarts_by d doubt answer (quiet (Running (started d))) c said crashes (inl refl) (ap (λ (x : Content). Running (started x)) (sym is)) refl
  over d doubt answer c said crashes (inr is) =
      restarts_by d doubt answer (record { standing = Running (started (after_write d doubt)); letters = []; outputs = []; write = doubt }) c said crashes (inr refl)
      (ap (λ (x : Content). Running (started x)) (sym is)) refl

-- whatever it left
pub restarts : (members : ℕ) (w : Written) (k : ℕ) (s : Standing) (c : Content) → slice_get w.nodes k ≡ Some s → IsLeft s c → Restarts members w k c
restarts members w k (Running view) c at left = over members w k (Running view) at view.content None Finished c (inl refl) (refl, refl) (inl left)
restarts members w k (Stopped d doubt) c at left = over members w k (Stopped d doubt) at d doubt (Refused NodeDown) c (inr refl) (refl, refl) left
