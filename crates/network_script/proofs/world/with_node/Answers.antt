use Rattle.network_script.proofs.Asking.{numbered_more}
use Rattle.network_script.proofs.world.with_node.Goals as goal

pub loop-numbered-preserved : goal.loop-numbered-preserved
loop-numbered-preserved c = record { whole = numbered_more c.loop-numbered.outputs.items _ c.args.k c.in-Some.numbered _ _ _ c.in_ok-push.ensures.items c.in-Some.ensures.steps.0 c.loop-numbered.invariant.whole }
