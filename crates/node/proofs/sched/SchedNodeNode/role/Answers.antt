use Rattle.std.proofs.Common.{ap}
use Rattle.node.specs.View.{View}
use Rattle.node.proofs.sched.SchedNodeNode.role.Goals as goal

pub returns-clause-standing : goal.returns-clause-standing
returns-clause-standing g c view stands = ap (λ (v : View). v.role) stands.1
