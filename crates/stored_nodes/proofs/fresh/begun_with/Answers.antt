use Rattle.std.proofs.Common.{◌∙◌, IsTrue, ap, subst, sym, true≢false}
use Rattle.node.specs.View.{View, made}
use Rattle.node.specs.View.Standing.{Running}
use Rattle.stored_nodes.proofs.fresh.begun_with.Goals as goal

pub returns-then-branch-clause-empty : goal.returns-then-branch-clause-empty
returns-then-branch-clause-empty g c honest content held =
    let to = c.in_ok-is_fresh.ensures.done honest (Running (made content)) (c.new-node.ensures.stands content held) in
    ap (λ (v : View). v.content) (to.1.0.0 c.if-branch.true)

pub returns-else-branch-clause-used : goal.returns-else-branch-clause-used
returns-else-branch-clause-used g c is honest clean content held nothing =
    let sure = c.in_ok-is_fresh.ensures.trust.sure (clean c.is_fresh.new.self.parts.records) (subst (λ b. IsTrue b) (sym c.new-node.ensures.honest) honest) in
    let to = c.in_ok-is_fresh.ensures.done sure (Running (made content)) (c.new-node.ensures.stands content held) in
    absurd (true≢false (sym (to.1.0.1 (ap made nothing)) ∙ c.if-branch.false))
