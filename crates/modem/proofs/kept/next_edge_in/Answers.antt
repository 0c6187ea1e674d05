use Rattle.std.proofs.Common.{List, map, subst}
use Rattle.modem.specs.declared.kept.KeptInterval.{KeptInterval}
use Rattle.modem.specs.State.{HasAt}
use Rattle.modem.specs.KeptIntervals.{kept_interval}
use Rattle.modem.proofs.Order.{HasAt-part}
use Rattle.modem.proofs.NextEdges.{HasSame-made}
use Rattle.modem.proofs.kept.next_edge_in.Goals as goal

pub returns-clause-same : goal.returns-clause-same
returns-clause-same c = λ x late limit before.
    let ks = c.args.kept.now in
    let b = c.sooner.ensures.before x before in
    let (front, count, part) = c.around.ensures.part in
    HasSame-made ks c.around.result.now c.args.ch c.args.«at» x late c.around.ensures.same
    (λ sid iuc h. HasAt-part ks front count c.args.ch x sid iuc (subst (λ (xs : List KeptInterval). HasAt (map kept_interval xs) c.args.ch x sid iuc) part h))
    (c.next_start.ensures.first x limit b.0)
    (c.least_stop.ensures.least x b.1)
