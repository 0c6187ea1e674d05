-- Hosts that are processes, the runs that their lines are, and the one log that these are.
use Rattle.std.specs.Prelude.{◌≡◌, ◌⊎◌, ℕ, ◌+◌, ◌<◌, ◌≤◌, true, List, [], ◌∷◌, ◌++◌, length, map, All, Contains}
use Rattle.std.specs.Prelude.{Some, slice_get}
use Rattle.ballots.specs.declared.letters.Letter.{Letter}
use Rattle.epochs.specs.Epochs.{IsBeginning, outputs_over, values_of}
use Rattle.epoch_runs.specs.Runs.{FollowOneLog}
use Rattle.grant_machine.specs.Laws.{InMap}
use Rattle.grant_machine.specs.declared.output.Output.{Output}
use Rattle.grant_machine.specs.declared.output.Output.TheVariants.{Map}
use Rattle.host_service.specs.Serving.{IsToldState}
use Rattle.map_release.specs.declared.numbered.Numbered.{Numbered}
use Rattle.network_script.specs.Next.{Run}
use Rattle.network_script.specs.World.{Written}
use Rattle.node_lines.specs.declared.request.Request.{Request}
use Rattle.node_lines.specs.declared.request.Request.TheVariants as request
use Rattle.seats.specs.Acted.{told}
use Rattle.seats.specs.declared.acted.Acted.{Acted}
use Rattle.seats.specs.declared.answer.Answer.{Answer}
use Rattle.seats.specs.declared.answer.Answer.TheVariants.{Finished, Refused}
use Rattle.world_events.specs.declared.event.Event.{Event}
use Rattle.world_events.specs.declared.event.Event.TheVariants as event
use Rattle.world_events.specs.declared.refusal.EventRefusal.TheVariants.{NodeDown}
use Rattle.host_lives.specs.Beginning.{IsLife, LivesFrom, new_host, nothing}
use Rattle.host_lives.specs.Turns.{AllCome, AllGiven, AllTold, DoesIn, HostEvent, HostTurn, events_in, events_of, host_of}
use Rattle.host_lives.specs.Turns.{is_done_in, letters_in, letters_sent, outputs_printed, replied, states_told, told_again}
use Rattle.host_lives.specs.Turns.{turns_of}
use Rattle.host_lives.specs.Turns.HostEvent.{Replied, Began}

-- each member has lived so from a beginning over records that hold nothing, in an order in which each letter of an
-- epoch was sent in that epoch before it came, and each state was told before a host went to it, or began again behind it
pub record HostsHaveLived (members places : ℕ) (happened : List HostEvent) : Type 0 where
  pub named : All (λ h. host_of h < members) happened
  pub lived : (k : ℕ) → k < members → LivesFrom members k places nothing new_host (events_of k happened)
  pub come : AllCome (replied happened)
  pub told : AllTold (replied happened)
  pub given : AllGiven happened

-- the same of hosts that live once
pub record HostsHaveLivedOnce (members places : ℕ) (turns : List HostTurn) : Type 0 where
  pub named : All (λ t. t.host < members) turns
  pub lived : (k : ℕ) → k < members → IsLife members k places (turns_of k turns)
  pub come : AllCome turns
  pub told : AllTold turns

-- what was asked of node k is this event, where these letters were sent before: a letter that comes is one of them
abbrev pub IsEvent : List Letter → ℕ → Request → Event → Type 0
IsEvent sent k request.Lead e = e ≡ event.Lead k
IsEvent sent k (request.Offer value) e = e ≡ event.Offer k value
IsEvent sent k (request.Release now) e = e ≡ event.Release k now
IsEvent sent k (request.Tell to place) e = e ≡ event.Tell k to place
IsEvent sent k (request.Letter l) e = (i : ℕ) × (slice_get sent i ≡ Some l) × (l.to ≡ k) × (e ≡ event.Deliver i)

-- a turn is in epoch e this event, answered so, where these letters were sent before
abbrev pub IsTurnOf : ℕ → List Letter → HostTurn → Event → Answer → Type 0
IsTurnOf e sent t happens answer =
    (asked : Request) × (acted : Acted) × DoesIn t e asked acted × IsEvent sent t.host asked happens × (answer ≡ told acted)

-- where a host begins again, its node crashes, if it was up, and restarts
pub record IsRestart (k : ℕ) (down up : Event) (answer again : Answer) : Type 0 where
  pub crash : down ≡ event.Crash k
  pub crashed : (answer ≡ Finished) ⊎ (answer ≡ Refused NodeDown)
  pub restart : up ≡ event.Restart k
  pub restarted : again ≡ Finished

-- so is what happened, one after another
abbrev pub AreEvents : ℕ → List Letter → List HostEvent → List Event → List Answer → Type 0
AreEvents e sent [] [] [] = Unit {0}
AreEvents e sent (Replied t ∷ happened) (happens ∷ events) (answer ∷ answers) =
    IsTurnOf e sent t happens answer × AreEvents e (sent ++ letters_in e t.reply) happened events answers
AreEvents e sent (Began k given ∷ happened) (down ∷ up ∷ events) (answer ∷ again ∷ answers) =
    IsRestart k down up answer again × AreEvents e sent happened events answers
AreEvents e sent happened events answers = ⊥

-- what hosts did in epoch e is a run of so many fresh nodes, which came to this world
pub record IsRunOf (members e : ℕ) (happened : List HostEvent) (w : Written) : Type 0 where
  pub script : List Event
  pub report : List Answer
  pub events : AreEvents e [] (events_in e happened) script report
  pub run : Run members [] script report w
  pub letters : w.letters ≡ letters_sent e (replied happened)

-- an output is the one at its number of these epochs
abbrev pub IsOutputOf : ℕ → List (List (List ℕ)) → Numbered → Type 0
IsOutputOf places cs x = (i : ℕ) × (x.place ≡ i + 1) × (slice_get (outputs_over places cs) i ≡ Some x.output)

-- bytes are the state behind full epochs, which are a beginning of these values
pub record IsStateOfLog (members places : ℕ) (cs : List (List (List ℕ))) (bytes : List ℕ) : Type 0 where
  pub state : IsToldState members places bytes
  pub beginning : IsBeginning (values_of places state.passed) (values_of places cs)

-- what hosts did is a run in each epoch, and these runs, whose chosen values are these, are one log
pub record AreOneLog (members places : ℕ) (happened : List HostEvent) (ws : List Written) (cs : List (List (List ℕ))) : Type 0 where
  -- in epochs 1, 2 and so on
  pub runs : (i : ℕ) (w : Written) → slice_get ws i ≡ Some w → IsRunOf members (i + 1) happened w
  -- and in no other one did a node do what it was asked
  pub whole : (t : HostTurn) (e : ℕ) → Contains (replied happened) t → is_done_in e t.reply ≡ true → (1 ≤ e) × (e ≤ length ws)
  pub log : FollowOneLog members places ws cs
  -- each output that a host printed is the one at its number
  pub printed : (x : Numbered) → Contains (outputs_printed (replied happened)) x → IsOutputOf places cs x
  -- so hosts that print one number print one output
  pub one : (x y : Numbered) → Contains (outputs_printed (replied happened)) x → Contains (outputs_printed (replied happened)) y
      → x.place ≡ y.place → x.output ≡ y.output
  -- and MAPs that they print, and that share a minislot of a channel, have one number
  pub maps : (x y : Numbered) → Contains (outputs_printed (replied happened)) x → Contains (outputs_printed (replied happened)) y
      → (ch m start len start' len' : ℕ) (bytes bytes' : List ℕ) → x.output ≡ Map ch start len bytes → y.output ≡ Map ch start' len' bytes'
      → InMap start len m → InMap start' len' m → x.place ≡ y.place
  -- each state that they tell is of this log, and so is each output that they tell again
  pub states : (bytes : List ℕ) → Contains (states_told (replied happened)) bytes → IsStateOfLog members places cs bytes
  pub again : (o : Output) → Contains (told_again (replied happened)) o → Contains (outputs_over places cs) o

-- hosts that have lived are one log
abbrev pub HostsAreOneLog : Type 0
HostsAreOneLog =
    (members places : ℕ) (happened : List HostEvent) → HostsHaveLived members places happened
    → (ws : List Written) × (cs : List (List (List ℕ))) × AreOneLog members places happened ws cs

-- so are hosts that live once: nothing else happened than that they replied
abbrev pub HostsOfOneLifeAreOneLog : Type 0
HostsOfOneLifeAreOneLog =
    (members places : ℕ) (turns : List HostTurn) → HostsHaveLivedOnce members places turns
    → (ws : List Written) × (cs : List (List (List ℕ))) × AreOneLog members places (map (λ t. Replied t) turns) ws cs
