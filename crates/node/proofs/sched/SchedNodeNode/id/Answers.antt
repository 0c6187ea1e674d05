use Rattle.std.proofs.Common.{ap}
use Rattle.node.specs.View.{View}
use Rattle.node.proofs.sched.SchedNodeNode.id.Goals as goal

pub returns-clause-role : goal.returns-clause-role
returns-clause-role g c view stands = ap (λ (v : View). v.role) stands.1
