use Rattle.batched_node.proofs.Noting.{kept_after}
use Rattle.seats.specs.Occupant.{node_of, who_of}
use Rattle.batched_node.proofs.keeping.BatchedSeatKeeper.waits.Goals as goal

pub returns : goal.returns
returns g c none noted =
    let now = c.args.self.now in
    kept_after g.W.WriteStore now.noted (who_of now.seat) (node_of now.seat).parts.records (c.waits.ensures.none none) noted.0
