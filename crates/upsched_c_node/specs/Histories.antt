-- What the writes that a node's calls handed out lead to.
use Rattle.std.specs.Prelude.{◌≡◌, ℕ, List, [], ◌∷◌, Ok}
use Rattle.acceptor.specs.Content.{no_content}
use Rattle.node.specs.Calls.{Cause}
use Rattle.node.specs.Releases.{released_all}
use Rattle.node.specs.Step.{Outcome}
use Rattle.upsched_c_node.specs.declared.handle.Held.{Held}
use Rattle.node_writes.specs.declared.write_bytes.WriteBytes.{WriteBytes}
use Rattle.upsched_c_node.specs.Opening.{IsStarted}
use Rattle.upsched_c_node.specs.States.{NodeState, Takes, started_as}
use Rattle.node_writes.specs.Writes.{HasStrange}
use Rattle.told_writes.specs.Writes.{HandsOut}

-- what happens to a node: a call that is OK and handed out these bytes, a release of its outputs, or a start over what
-- it holds
pub data Event : Type 0 where
  Call : Cause → WriteBytes → Event
  Release : Event
  Start : Event

-- so it does, and leaves this node
abbrev pub Happens : NodeState → Event → NodeState → Type 0
Happens n (Call cause r) after =
    (o : Outcome) × Takes n cause (Ok o) × HandsOut n.id n.view.content o.write r × (after ≡ record n { view = o.view })
Happens n Release after = after ≡ record n { view = released_all n.view }
Happens n Start after = after ≡ started_as n.id n.members n.view.content

-- these happen to a node, one after another
abbrev pub AllHappen : NodeState → List Event → NodeState → Type 0
AllHappen n [] last = last ≡ n
AllHappen n (e ∷ es) last = (next : NodeState) × Happens n e next × AllHappen next es last

-- all that was handed out, in order
abbrev pub handed_out : List Event → List WriteBytes
handed_out [] = []
handed_out (Call cause r ∷ es) = r ∷ handed_out es
handed_out (Release ∷ es) = handed_out es
handed_out (Start ∷ es) = handed_out es

-- a node that is opened with all that was handed out, from when it was new, is the node that handed it out, started
-- over what that held
abbrev pub OpensAsLeft : Type 0
OpensAsLeft =
    (id members : ℕ) (es : List Event) (last : NodeState) (k : Held) → AllHappen (started_as id members no_content) es last
    → IsStarted id members (handed_out es) k → k.node ≡ started_as id members last.view.content

-- and none of it is strange
abbrev pub NoneIsStrange : Type 0
NoneIsStrange =
    (id members : ℕ) (es : List Event) (last : NodeState) → AllHappen (started_as id members no_content) es last → ¬ HasStrange id (handed_out es)
