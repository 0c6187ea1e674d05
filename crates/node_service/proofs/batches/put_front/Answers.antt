use Rattle.std.proofs.Common.{◌≡◌, suc, take, drop, true, add-one, rules}
use Rattle.std.specs.List.{take_while}
use Rattle.node_service.proofs.Batching.{left_goes_on, left_here, one_written}
use Rattle.node_service.specs.Batched.{StopsAt, left_of}
use Rattle.node_service.proofs.batches.put_front.Goals as goal

pub returns-in_err-put_left-clause-fails : goal.returns-in_err-put_left-clause-fails
returns-in_err-put_left-clause-fails g c =
    let xs = c.args.replies.now in
    let k = c.loop-reply.reply-index in
    let passes : g.K.Keeper.may_tell c.args.told.now c.reply-item.result ≡ true = search rules in
    let split = left_here (g.K.Keeper.may_tell c.args.told.now) xs k c.reply-item.result c.loop-reply-test.true c.reply-item.is passes c.loop-reply.invariant.1 in
    let stops : StopsAt g.K.Reply.Told.text g.O.Outbox (left_of g.K.Keeper c.args.told.now xs) c.in_err-put_left.field-0.0 c.args.output.now c.put_left.new.output =
    (take k xs, take_while (g.K.Keeper.may_tell c.args.told.now) (drop (suc k) xs), c.reply-item.result, c.loop-reply.output, split, c.loop-reply.invariant.0, c.in_err-put_left.ensures.fails) in
    search rules

pub loop-reply-preserved : goal.loop-reply-preserved
loop-reply-preserved g c =
    let xs = c.args.replies.now in
    let k = c.loop-reply.reply-index in
    let passes : g.K.Keeper.may_tell c.args.told.now c.reply-item.result ≡ true = search rules in
    let written = one_written g.K.Reply.Told.text g.O.Outbox xs k c.reply-item.result c.args.output.now c.loop-reply.output c.put_left.new.output c.loop-reply-test.true c.reply-item.is
    c.loop-reply.invariant.0 c.in_ok-put_left.ensures.written in
    let left = left_goes_on (g.K.Keeper.may_tell c.args.told.now) xs k c.reply-item.result c.loop-reply-test.true c.reply-item.is passes c.loop-reply.invariant.1 in
    rw add-one (written, left)
