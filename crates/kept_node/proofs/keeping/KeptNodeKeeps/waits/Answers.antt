use Rattle.kept_node.proofs.Calling.{who}
use Rattle.kept_node.proofs.Noting.{has_kept}
use Rattle.kept_node.proofs.keeping.KeptNodeKeeps.waits.Goals as goal

pub returns : goal.returns
returns g c none =
    let node = c.args.self.now in
    has_kept g.W.WriteStore node.noted (who node.node.parts).id node.node.parts.records (c.waits.ensures.goes_on none) (c.waits.ensures.none none) node.waits
