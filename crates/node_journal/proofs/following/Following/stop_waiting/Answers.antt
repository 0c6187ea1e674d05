use Rattle.std.proofs.Common.{Option, IfSome, IsTrue, subst, rules}
use Rattle.node_journal.specs.Following.{IsWaitingAt}
use Rattle.node_journal.specs.declared.following.Stop.{Stop}
use Rattle.node_journal.proofs.Standing.{stops_waiting}
use Rattle.node_journal.proofs.following.Following.stop_waiting.Goals as goal

pub returns-in-Some : goal.returns-in-Some
returns-in-Some c =
    let yes : IsTrue c.in_ok-all_stand_still.field-0 = search rules in
    stops_waiting c.args.journals.now c.args.self.now c.requires.reached (c.in_ok-all_stand_still.ensures yes) c.args.k c.requires.ended c.in-Some.stop
    (subst (λ (o : Option Stop). IfSome o (IsWaitingAt c.args.journals.now c.args.self.now c.args.k)) c.in-Some.is c.in_ok-stop.ensures)
