-- A node, and what its calls do to it.
use Rattle.std.specs.Prelude.{ℕ, Result}
use Rattle.node.specs.Calls.{Cause, Course}
use Rattle.node.specs.Step.{Outcome}
use Rattle.node.specs.View.{View}
use Rattle.proposer.specs.declared.fault.NodeFault.{NodeFault as Fault}

-- a node by its number, the number of members, and its view, of which the content is what its records hold
pub record NodeState : Type 0 where
  pub id : ℕ
  pub members : ℕ
  pub view : View

-- the course of a call of the node
abbrev pub Takes : NodeState → Cause → Result Outcome Fault → Type 0
Takes n cause course = Course n.members n.id n.view cause course
