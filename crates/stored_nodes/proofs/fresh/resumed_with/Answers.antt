use Rattle.std.proofs.Common.{Bool, IsTrue, subst}
use Rattle.node.specs.Sched.{Stands}
use Rattle.node.specs.View.{Standing, made}
use Rattle.node.specs.View.Standing.{Running}
use Rattle.stored_nodes.proofs.fresh.resumed_with.Goals as goal

pub returns-clause-resumed : goal.returns-clause-resumed
returns-clause-resumed g c = λ honest. (
  subst (λ (b : Bool). IsTrue b) c.new-node.ensures.honest (c.in_ok-restart.ensures.honesty honest),
  λ content held.
      let to = c.in_ok-restart.ensures.done honest (Running (made content)) (c.new-node.ensures.stands content held) in
      subst (λ (s : Standing). Stands g.R.Records.may_find c.restart.new.self.parts s) to.1 to.2,
)
