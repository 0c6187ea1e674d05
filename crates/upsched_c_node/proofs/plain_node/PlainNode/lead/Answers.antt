use Rattle.std.proofs.Common.{refl, subst}
use Rattle.node.specs.Calls.{answer}
use Rattle.node.specs.Calls.Cause.{Lead}
use Rattle.upsched_c_node.proofs.Exact.{answered, lead_lacks, stands_so}
use Rattle.upsched_c_node.proofs.Learned.{stays_whole}
use Rattle.upsched_c_node.specs.States.{Answered, NodeState, state_of}
use Rattle.upsched_c_node.proofs.plain_node.PlainNode.lead.Goals as goal

pub returns : goal.returns
returns c =
    let old = c.self.inside.node.parts in
    let new = c.lead.new.self.parts in
    let n = state_of old in
    subst (λ (m : NodeState). Answered m Lead (answer c.lead.result) (state_of new)) c.self.view_is
    (answered old new c.self.invariant.0 Lead c.lead.result c.lead.ensures.kept (c.lead.ensures.done refl)
    (λ is. lead_lacks n c.lead.result is (c.lead.ensures.order refl n.view (stands_so old c.self.invariant.0)) (c.lead.ensures.memory refl n.view (stands_so old c.self.invariant.0))))

pub invariant_of-self : goal.invariant_of-self
invariant_of-self c =
    let old = c.self.inside.node.parts in
    let new = c.lead.new.self.parts in
    let n = state_of old in
    stays_whole c.self.inside.released old new Lead c.lead.result c.self.invariant.0 c.self.invariant.1 c.self.invariant.2 c.lead.ensures.kept
    (answered old new c.self.invariant.0 Lead c.lead.result c.lead.ensures.kept (c.lead.ensures.done refl)
    (λ is. lead_lacks n c.lead.result is (c.lead.ensures.order refl n.view (stands_so old c.self.invariant.0)) (c.lead.ensures.memory refl n.view (stands_so old c.self.invariant.0))))
