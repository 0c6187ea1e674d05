use Rattle.kept_node.proofs.Noting.{began}
use Rattle.kept_node.proofs.kept.KeptNode.of.Goals as goal

pub invariant_of-result : goal.invariant_of-result
invariant_of-result g c =
    let made = c.in_ok-noted.ensures in
    record {
      up = c.requires.up;
      some = c.requires.some;
      waits = (began g.W.WriteStore c.in_ok-noted.noted c.args.store c.args.node.parts made.store made.none made.goes_on c.requires.holds).0;
    }

pub returns-clause-kept : goal.returns-clause-kept
returns-clause-kept g c =
    let made = c.in_ok-noted.ensures in
    (began g.W.WriteStore c.in_ok-noted.noted c.args.store c.args.node.parts made.store made.none made.goes_on c.requires.holds).1
