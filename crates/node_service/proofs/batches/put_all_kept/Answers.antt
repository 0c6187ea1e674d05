use Rattle.std.proofs.Common.{◌≡◌, ◌++◌, Err, rules}
use Rattle.std.specs.Io.KnownBytes.{Appends}
use Rattle.std.specs.List.{flat_map}
use Rattle.node_service.proofs.Batching.{all_unsent, fails_at, with_last, with_none, within_more}
use Rattle.node_service.specs.Batched.{FailsWithin, those}
use Rattle.node_service.proofs.batches.put_all_kept.Goals as goal
use Rattle.node_service.proofs.batches.put_all_kept.Goals.{in-Some+in_ok-put_kept-2, in_default}

pub returns-in_err-put_kept-clause-fails : goal.returns-in_err-put_kept-clause-fails
returns-in_err-put_kept-clause-fails g c =
    let here : FailsWithin g.K.Reply.Told.text g.O.Outbox c.args.replies.now c.in_err-put_kept.field-0.0 c.args.output.now c.put_kept.new.output =
    fails_at g.K.Reply.Told.text g.O.Outbox c.args.replies.now c.loop-reply.reply-index c.reply-item.result c.in_err-put_kept.field-0.0 c.args.output.now c.loop-reply.output c.put_kept.new.output
    c.loop-reply-test.true c.reply-item.is c.loop-reply.invariant c.in_err-put_kept.ensures.fails in
    let more : FailsWithin g.K.Reply.Told.text g.O.Outbox (c.args.replies.now ++ those c.args.last.now) c.in_err-put_kept.field-0.0 c.args.output.now c.put_kept.new.output =
    within_more g.K.Reply.Told.text g.O.Outbox c.args.replies.now (those c.args.last.now) c.in_err-put_kept.field-0.0 c.args.output.now c.put_kept.new.output here in
    let is : c.from_residual.result ≡ Err c.in_err-put_kept.field-0.0 = search rules in
    rw is more

pub returns-clause-fails : goal.returns-clause-fails
returns-clause-fails g c =
    let xs = c.args.replies.now in
    let ys = those c.args.last.now in
    let written : Appends (g.O.Outbox.bytes_held c.args.output.now) (g.O.Outbox.bytes_held c.match-last.output) (flat_map g.K.Reply.Told.text (xs ++ ys)) = elim c.match-last.branch [
      | in-Some+in_ok-put_kept-2 w ↦ rw w.output-is (with_last g.K.Reply.Told.text g.O.Outbox xs c.loop-reply.reply-index c.args.last.now w.in-Some.reply c.args.output.now c.loop-reply.output
          w.put_kept-in-Some.new.output c.loop-reply-test.false w.in-Some.is c.loop-reply.invariant w.in_ok-put_kept-2.ensures.written)
      | in_default w ↦ rw w.output-is (with_none g.K.Reply.Told.text g.O.Outbox xs c.loop-reply.reply-index c.args.last.now c.args.output.now c.loop-reply.output c.loop-reply-test.false
          w.in_default.is c.loop-reply.invariant)
    ] in
    all_unsent g.K.Reply.Told.text g.O.Outbox (xs ++ ys) c.send_out.result c.args.output.now c.match-last.output c.send_out.new.self written c.send_out.ensures.fails
