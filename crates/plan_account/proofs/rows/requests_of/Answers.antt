use Rattle.std.proofs.lemmas.Map.Iter.{rest_more}
use Rattle.std.specs.Map.Iter.{deref_pair}
use Rattle.plan_account.specs.Accounts.{requests_in}
use Rattle.plan_account.proofs.Rowing.{rows_more}
use Rattle.plan_account.proofs.rows.requests_of.Goals as goal

pub loop-key-preserved : goal.loop-key-preserved
loop-key-preserved c =
    rows_more (requests_in c.args.flows.now) _ c.loop-key.key-iterator c.next.new.self (c.in-Some.key.now, c.in-Some.past.now) c.loop-key.rows.items _
    (rest_more deref_pair c.loop-key.key-iterator c.next.new.self c.next.result (c.in-Some.key, c.in-Some.past) c.in-Some.is c.next.ensures.steps)
    c.loop-key.invariant (rw c.reach_in-reach.ensures at c.in_ok-put_requests.ensures)
