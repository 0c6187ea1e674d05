use Rattle.std.proofs.Common.{refl, subst}
use Rattle.node.specs.Calls.{answer}
use Rattle.node.specs.Calls.Cause.{Receive}
use Rattle.upsched_c_node.proofs.Exact.{answered, receive_lacks}
use Rattle.upsched_c_node.proofs.Learned.{stays_whole}
use Rattle.upsched_c_node.specs.States.{Answered, NodeState, state_of}
use Rattle.upsched_c_node.proofs.plain_node.PlainNode.receive.Goals as goal

pub returns : goal.returns
returns c =
    let old = c.self.inside.node.parts in
    let new = c.receive.new.self.parts in
    let n = state_of old in
    subst (λ (m : NodeState). Answered m (Receive c.args.letter.now) (answer c.receive.result) (state_of new)) c.self.view_is
    (answered old new c.self.invariant.0 (Receive c.args.letter.now) c.receive.result c.receive.ensures.kept (c.receive.ensures.done refl)
    (λ is. receive_lacks n c.args.letter.now c.receive.result is (c.receive.ensures.passed_over c.self.invariant.0) (c.receive.ensures.no_memory c.self.invariant.0)))

pub invariant_of-self : goal.invariant_of-self
invariant_of-self c =
    let old = c.self.inside.node.parts in
    let new = c.receive.new.self.parts in
    let n = state_of old in
    stays_whole c.self.inside.released old new (Receive c.args.letter.now) c.receive.result c.self.invariant.0 c.self.invariant.1 c.self.invariant.2 c.receive.ensures.kept
    (answered old new c.self.invariant.0 (Receive c.args.letter.now) c.receive.result c.receive.ensures.kept (c.receive.ensures.done refl)
    (λ is. receive_lacks n c.args.letter.now c.receive.result is (c.receive.ensures.passed_over c.self.invariant.0) (c.receive.ensures.no_memory c.self.invariant.0)))
