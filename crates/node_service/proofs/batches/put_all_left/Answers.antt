use Rattle.std.proofs.Common.{◌≡◌, ◌++◌, Err, rules}
use Rattle.node_service.proofs.Batching.{all_written, last_stops, left_more, some_written, stops_more}
use Rattle.node_service.specs.Batched.{StopsAt, left_of, those}
use Rattle.node_service.proofs.batches.put_all_left.Goals as goal

pub returns-in_err-all-clause-fails : goal.returns-in_err-all-clause-fails
returns-in_err-all-clause-fails g c =
    let xs = c.args.replies.now in
    let ys = those c.args.last.now in
    let more = left_more (g.K.Keeper.may_tell c.args.told.now) xs ys in
    let stops : StopsAt g.K.Reply.Told.text g.O.Outbox (left_of g.K.Keeper c.args.told.now (xs ++ ys)) c.in_err-all.field-0.0 c.args.output.now c.put_front.new.output =
    stops_more g.K.Reply.Told.text g.O.Outbox (left_of g.K.Keeper c.args.told.now xs) (left_of g.K.Keeper c.args.told.now (xs ++ ys)) more.0 c.in_err-all.field-0.0 c.args.output.now
    c.put_front.new.output more.1 c.in_err-all.ensures.fails in
    let is : c.from_residual.result ≡ Err c.in_err-all.field-0.0 = search rules in
    rw is stops

pub returns-then-all-clause-written : goal.returns-then-all-clause-written
returns-then-all-clause-written g c =
    all_written g.K.Reply.Told.text g.O.Outbox (g.K.Keeper.may_tell c.args.told.now) c.args.replies.now (those c.args.last.now) c.put_last.result c.args.output.now c.put_front.new.output c.put_last.new.output
    (c.in_ok-all.ensures.all c.if-all.true) c.in_ok-all.ensures.written c.put_last.ensures.written

pub returns-then-all-clause-fails : goal.returns-then-all-clause-fails
returns-then-all-clause-fails g c =
    last_stops g.K.Reply.Told.text g.O.Outbox (g.K.Keeper.may_tell c.args.told.now) c.args.replies.now (those c.args.last.now) c.put_last.result c.args.output.now c.put_front.new.output c.put_last.new.output
    (c.in_ok-all.ensures.all c.if-all.true) c.in_ok-all.ensures.written c.put_last.ensures.fails

pub returns-clause-written : goal.returns-clause-written
returns-clause-written g c =
    some_written g.K.Reply.Told.text g.O.Outbox (g.K.Keeper.may_tell c.args.told.now) c.args.replies.now (those c.args.last.now) c.args.output.now c.put_front.new.output
    (c.in_ok-all.ensures.some c.if-all.false) c.in_ok-all.ensures.written
