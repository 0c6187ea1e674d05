-- The lists of letters and outputs of a world only grow.
use Rattle.std.proofs.Common.{◌≡◌, ℕ, List, [], ◌++◌, Option, Some, None, sym, ap, ◌∙◌, append-nil, slice_get}
use Rattle.ballots.specs.declared.letters.Letter.{Letter}
use Rattle.node.specs.View.{Standing}
use Rattle.node.specs.Calls.Cause.{Lead as AskedToLead, Offer as Offered, Receive as Received, Tell as AskedToTell}
use Rattle.seats.specs.declared.answer.Answer.{Answer}
use Rattle.seats.specs.declared.answer.ReleasedOutput.{ReleasedOutput}
use Rattle.seats.specs.Moves.{Ask}
use Rattle.seats.specs.Moves.Ask.{Call, TakeThenCrash, Release as ReleaseAt, Crash as CrashNow, Restart as StartAgain}
use Rattle.world_events.specs.declared.event.Event.{Event}
use Rattle.world_events.specs.declared.event.Event.TheVariants.{Lead, Offer, Tell, Deliver, DeliverThenCrash, Crash}
use Rattle.world_events.specs.declared.event.Event.TheVariants.{Restart, Release, Hear, Want, Tick}
use Rattle.network_script.specs.Next.{Comes, Next, OfNode, OnModems}
use Rattle.network_script.specs.World.{Written, released_by}

-- a world has what another had, and more behind it
pub record Grown (w w' : Written) : Type 0 where
  pub letters : List Letter
  pub outputs : List ReleasedOutput
  pub sent : w'.letters ≡ w.letters ++ letters
  pub released : w'.outputs ≡ w.outputs ++ outputs

unmoved : (w w' : Written) → w' ≡ w → Grown w w'
unmoved w w' is = record {
  letters = [];
  outputs = [];
  sent = ap (λ (v : Written). v.letters) is ∙ sym (append-nil w.letters);
  released = ap (λ (v : Written). v.outputs) is ∙ sym (append-nil w.outputs);
}

of_node : (members : ℕ) (w w' : Written) (k : ℕ) (s : Option Standing) (ask : Ask) (answer : Answer) → OfNode members w k s ask answer w' → Grown w w'
of_node members w w' k None ask answer (told, is) = unmoved w w' is
of_node members w w' k (Some s) ask answer (m, moves, is) = record {
  letters = m.letters;
  outputs = released_by k m.outputs;
  sent = ap (λ (v : Written). v.letters) is;
  released = ap (λ (v : Written). v.outputs) is;
}

comes : (members : ℕ) (w w' : Written) (l : Option Letter) (ask : Letter → Ask) (answer : Answer) → Comes members w l ask answer w' → Grown w w'
comes members w w' None ask answer (told, is) = unmoved w w' is
comes members w w' (Some l) ask answer next = of_node members w w' l.to (slice_get w.nodes l.to) (ask l) answer next

on_modems : (w w' : Written) (event : Event) (answer : Answer) → OnModems w event answer w' → Grown w w'
on_modems w w' event answer (modems, next, is) = record {
  letters = [];
  outputs = [];
  sent = ap (λ (v : Written). v.letters) is ∙ sym (append-nil w.letters);
  released = ap (λ (v : Written). v.outputs) is ∙ sym (append-nil w.outputs);
}

pub grown : (members : ℕ) (w w' : Written) (event : Event) (answer : Answer) → Next members w event answer w' → Grown w w'
grown members w w' (Lead k) answer next = of_node members w w' k (slice_get w.nodes k) (Call AskedToLead) answer next
grown members w w' (Offer k value) answer next = of_node members w w' k (slice_get w.nodes k) (Call (Offered value)) answer next
grown members w w' (Tell k to place) answer next = of_node members w w' k (slice_get w.nodes k) (Call (AskedToTell to place)) answer next
grown members w w' (Deliver i) answer next = comes members w w' (slice_get w.letters i) (λ l. Call (Received l)) answer next
grown members w w' (DeliverThenCrash i) answer next = comes members w w' (slice_get w.letters i) TakeThenCrash answer next
grown members w w' (Crash k) answer next = of_node members w w' k (slice_get w.nodes k) CrashNow answer next
grown members w w' (Restart k) answer next = of_node members w w' k (slice_get w.nodes k) StartAgain answer next
grown members w w' (Release k now) answer next = of_node members w w' k (slice_get w.nodes k) (ReleaseAt now) answer next
grown members w w' (Hear m i near) answer next = on_modems w w' (Hear m i near) answer next
grown members w w' (Want m ch sid n) answer next = on_modems w w' (Want m ch sid n) answer next
grown members w w' (Tick m ch slot random) answer next = on_modems w w' (Tick m ch slot random) answer next
