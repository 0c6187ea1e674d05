use Rattle.std.proofs.Common.{◌++◌, inl, inr}
use Rattle.node_service.proofs.Batching.{within_sent}
use Rattle.node_service.specs.Batched.{FailsToTellLeft, FailsWithin, those}
use Rattle.node_service.proofs.batches.close_all.Goals as goal

pub returns-in-Err-tell_failed-clause-fails : goal.returns-in-Err-tell_failed-clause-fails
returns-in-Err-tell_failed-clause-fails g c =
    let untold : FailsToTellLeft g.K.Keeper g.K.Reply.Told.text g.O.Outbox c.in-Err-keep.told (c.args.replies.now.items ++ those c.args.last) c.in-Err-tell_failed.why c.send_out.new.self c.tell_failed.new.output =
    rw c.deref.ensures.value at c.in-Err-tell_failed.ensures.fails in
    inr (inl (c.in-Err-keep.told, c.send_out.new.self, c.in_default.ensures.same, c.in-Err-keep.ensures.fails, c.in-Err-keep.ensures.left, untold))

pub returns-in-Err-put_all_kept-clause-fails : goal.returns-in-Err-put_all_kept-clause-fails
returns-in-Err-put_all_kept-clause-fails g c =
    let fails : FailsWithin g.K.Reply.Told.text g.O.Outbox (c.args.replies.now.items ++ those c.args.last) c.in-Err-put_all_kept.why c.send_out.new.self c.put_all_kept.new.output =
    rw c.deref-2.ensures.value at c.in-Err-put_all_kept.ensures.fails in
    let commits = c.in_default-keep.ensures.commits in
    inr (inr (
      commits.0,
      commits.1,
      c.in_default-keep.ensures.kept,
      within_sent g.K.Reply.Told.text g.O.Outbox (c.args.replies.now.items ++ those c.args.last) c.in-Err-put_all_kept.why c.args.output.now
          c.send_out.new.self c.put_all_kept.new.output c.in_default.ensures.same fails,
    ))
