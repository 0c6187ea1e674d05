use Rattle.std.proofs.Common.{refl, subst}
use Rattle.node.specs.Calls.{answer}
use Rattle.node.specs.Calls.Cause.{Offer}
use Rattle.upsched_c_node.proofs.Exact.{answered, offer_lacks, stands_so}
use Rattle.upsched_c_node.proofs.Learned.{stays_whole}
use Rattle.upsched_c_node.specs.States.{Answered, NodeState, state_of}
use Rattle.upsched_c_node.proofs.plain_node.PlainNode.offer.Goals as goal

pub returns : goal.returns
returns c =
    let old = c.self.inside.node.parts in
    let new = c.offer.new.self.parts in
    let n = state_of old in
    subst (λ (m : NodeState). Answered m (Offer c.args.value.now) (answer c.offer.result) (state_of new)) c.self.view_is
    (answered old new c.self.invariant.0 (Offer c.args.value.now) c.offer.result c.offer.ensures.kept (c.offer.ensures.done refl)
    (λ is. offer_lacks n c.args.value.now c.offer.result is (c.offer.ensures.order refl n.view (stands_so old c.self.invariant.0))))

pub invariant_of-self : goal.invariant_of-self
invariant_of-self c =
    let old = c.self.inside.node.parts in
    let new = c.offer.new.self.parts in
    let n = state_of old in
    stays_whole c.self.inside.released old new (Offer c.args.value.now) c.offer.result c.self.invariant.0 c.self.invariant.1 c.self.invariant.2 c.offer.ensures.kept
    (answered old new c.self.invariant.0 (Offer c.args.value.now) c.offer.result c.offer.ensures.kept (c.offer.ensures.done refl)
    (λ is. offer_lacks n c.args.value.now c.offer.result is (c.offer.ensures.order refl n.view (stands_so old c.self.invariant.0))))
