use Rattle.std.proofs.Common.{IsTrue, rules}
use Rattle.node_journal.proofs.Standing.{stops_torn}
use Rattle.node_journal.proofs.following.Following.stop_torn.Goals as goal

pub returns : goal.returns
returns c =
    let yes : IsTrue c.in_ok-all_stand_still.field-0 = search rules in
    stops_torn c.args.journals.now c.args.self.now c.requires.reached c.args.k (c.in_ok-all_stand_still.ensures yes) c.index-follower.result.now c.in-Some.why c.requires.within c.index-follower.ensures c.in-Some.is
