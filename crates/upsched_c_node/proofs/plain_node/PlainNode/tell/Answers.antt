use Rattle.std.proofs.Common.{subst}
use Rattle.node.specs.Calls.{answer}
use Rattle.node.specs.Calls.Cause.{Tell}
use Rattle.upsched_c_node.proofs.Exact.{answered, tell_lacks}
use Rattle.upsched_c_node.specs.States.{Answered, NodeState, state_of}
use Rattle.upsched_c_node.proofs.plain_node.PlainNode.tell.Goals as goal

pub returns : goal.returns
returns c =
    let parts = c.self.inside.node.parts in
    let n = state_of parts in
    subst (λ (m : NodeState). Answered m (Tell c.args.to c.args.place) (answer c.tell.result) m) c.self.view_is
    (answered parts parts c.self.invariant.0 (Tell c.args.to c.args.place) c.tell.result c.tell.ensures.kept (λ s stands. (s, c.tell.ensures.done s stands, stands))
    (λ is. tell_lacks n c.args.to c.args.place c.tell.result is (c.tell.ensures.no_memory c.self.invariant.0)))
