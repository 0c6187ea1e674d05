use Rattle.std.proofs.Common.{◌≡◌, ◌+◌, inl, [], true, refl, arith, rules}
use Rattle.node_service.proofs.Batching.{begun}
use Rattle.node_service.proofs.Looping.{before_line, ends_before, ends_behind, ends_open, ends_spent, ends_unread, goes_on}
use Rattle.node_service.proofs.Looping.{kept_before, one_taken, turned}
use Rattle.node_service.specs.Batched.{comes_apart}
use Rattle.node_service.proofs.batches.serve_batched.Goals as goal

pub loop-count-init : goal.loop-count-init
loop-count-init g c = record {
  taken = record {
    seen = [];
    waiting = [];
    serving = begun g.K.Keeper g.K.Reply.Told.text g.I.Lines g.O.Outbox c.args.keeper.now c.args.input.now c.args.output.now c.requires.kept;
    replies = c.new-replies.ensures.items;
    count = refl;
  };
  noted = c.requires.noted;
  room = c.requires.room;
  ready = inl c.new-replies.ensures.items;
}

pub returns-in_default : goal.returns-in_default
returns-in_default g c =
    let up : g.K.Keeper.up c.loop-count.keeper ≡ true = cc (c.can_act.ensures, c.if-not-can_act.false) in
    ends_unread g.K.Keeper g.K.Reply.Told.text g.I.Lines g.O.Outbox g.I.Ahead.ahead c.args.keeper.now c.args.input.now c.args.output.now c.loop-count.count c.loop-count.replies.items c.close_before.result c.loop-count.keeper c.loop-count.input c.loop-count.output
    c.close_before.new.keeper c.next_unless_waiting.new.input c.close_before.new.output c.loop-count.invariant.taken up c.in_default.ensures.fails c.close_before.ensures

pub returns-in-Err : goal.returns-in-Err
returns-in-Err g c =
    let apart : comes_apart g.K.Keeper.is_apart c.in-Ok.what ≡ true = search rules in
    ends_before g.K.Keeper g.K.Reply.Told.text g.I.Lines g.O.Outbox g.I.Ahead.ahead c.args.keeper.now c.args.input.now c.args.output.now c.loop-count.count c.loop-count.replies.items c.in-Err.end c.loop-count.keeper c.loop-count.input c.loop-count.output
    c.in-Ok.what c.close_unless.new.keeper c.next_unless_waiting.new.input c.close_unless.new.output c.loop-count.invariant.taken apart c.in-Ok.ensures.gives c.in-Err.ensures.fails

pub returns-in_default-reply_to_next : goal.returns-in_default-reply_to_next
returns-in_default-reply_to_next g c =
    let up : g.K.Keeper.up c.loop-count.keeper ≡ true = cc (c.can_act.ensures, c.if-not-can_act.false) in
    let before = before_line g.K.Keeper g.K.Reply.Told.text g.I.Lines g.O.Outbox g.I.Ahead.ahead c.args.keeper.now c.args.input.now c.args.output.now c.loop-count.count c.loop-count.replies.items c.loop-count.keeper c.loop-count.input c.loop-count.output
    c.close_unless.new.replies.items c.close_unless.new.keeper c.close_unless.new.output c.may_be_done-is_now.result c.loop-count.invariant.taken c.loop-count.invariant.noted
    c.loop-count.invariant.room up c.in_default-close_unless.ensures.open c.in_default-close_unless.ensures.closed in
    let kept = kept_before g.K.Keeper g.K.Reply.Told.text g.I.Lines g.O.Outbox g.I.Ahead.ahead c.args.keeper.now c.args.input.now c.args.output.now c.loop-count.count c.loop-count.replies.items c.loop-count.keeper c.loop-count.input c.loop-count.output
    c.close_unless.new.replies.items c.close_unless.new.keeper c.close_unless.new.output c.may_be_done-is_now.result (comes_apart g.K.Keeper.is_apart c.in-Ok.what) c.loop-count.invariant.taken
    c.may_be_done-is_now.ensures.may c.in_default-close_unless.ensures.open c.in_default-close_unless.ensures.closed in
    ends_behind g.K.Keeper g.K.Reply.Told.text g.I.Lines g.O.Outbox g.I.Ahead.ahead c.args.keeper.now c.args.input.now c.args.output.now c.loop-count.count c.close_unless.new.replies.items c.close_before-in_default-reply_to_next.result c.in-Ok.what c.close_unless.new.keeper
    c.reply_to_next.new.keeper c.loop-count.input c.close_unless.new.output c.close_before-in_default-reply_to_next.new.keeper c.next_unless_waiting.new.input
    c.close_before-in_default-reply_to_next.new.output before.0 before.3 c.in-Ok.ensures.comes c.in-Ok.ensures.gives c.in_default-reply_to_next.ensures.replies
    c.close_before-in_default-reply_to_next.ensures

pub returns-in-Err-take : goal.returns-in-Err-take
returns-in-Err-take g c =
    let up : g.K.Keeper.up c.loop-count.keeper ≡ true = cc (c.can_act.ensures, c.if-not-can_act.false) in
    let before = before_line g.K.Keeper g.K.Reply.Told.text g.I.Lines g.O.Outbox g.I.Ahead.ahead c.args.keeper.now c.args.input.now c.args.output.now c.loop-count.count c.loop-count.replies.items c.loop-count.keeper c.loop-count.input c.loop-count.output
    c.close_unless.new.replies.items c.close_unless.new.keeper c.close_unless.new.output c.may_be_done-is_now.result c.loop-count.invariant.taken c.loop-count.invariant.noted
    c.loop-count.invariant.room up c.in_default-close_unless.ensures.open c.in_default-close_unless.ensures.closed in
    let kept = kept_before g.K.Keeper g.K.Reply.Told.text g.I.Lines g.O.Outbox g.I.Ahead.ahead c.args.keeper.now c.args.input.now c.args.output.now c.loop-count.count c.loop-count.replies.items c.loop-count.keeper c.loop-count.input c.loop-count.output
    c.close_unless.new.replies.items c.close_unless.new.keeper c.close_unless.new.output c.may_be_done-is_now.result (comes_apart g.K.Keeper.is_apart c.in-Ok.what) c.loop-count.invariant.taken
    c.may_be_done-is_now.ensures.may c.in_default-close_unless.ensures.open c.in_default-close_unless.ensures.closed in
    let taken = turned g.K.Keeper g.K.Reply.Told.text g.I.Lines g.O.Outbox g.I.Ahead.ahead c.args.keeper.now c.args.input.now c.args.output.now c.loop-count.count c.close_unless.new.replies.items c.close_unless.new.keeper c.loop-count.input c.close_unless.new.output
    c.in-Ok.what c.in-Some.reply c.reply_to_next.new.keeper c.next_unless_waiting.new.input before.0 before.3 kept c.in-Ok.ensures.comes c.in-Ok.ensures.gives c.in-Some.ensures.replies in
    ends_open g.K.Keeper g.K.Reply.Told.text g.I.Lines g.O.Outbox g.I.Ahead.ahead c.args.keeper.now c.args.input.now c.args.output.now _ _ c.in-Err-take.end c.reply_to_next.new.keeper c.next_unless_waiting.new.input c.close_unless.new.output
    c.take.new.keeper c.next_unless_waiting.new.input c.take.new.output taken (inl (inl refl)) c.in-Err-take.ensures.fails

pub returns-in-Err-close_unless : goal.returns-in-Err-close_unless
returns-in-Err-close_unless g c =
    let up : g.K.Keeper.up c.loop-count.keeper ≡ true = cc (c.can_act.ensures, c.if-not-can_act.false) in
    let before = before_line g.K.Keeper g.K.Reply.Told.text g.I.Lines g.O.Outbox g.I.Ahead.ahead c.args.keeper.now c.args.input.now c.args.output.now c.loop-count.count c.loop-count.replies.items c.loop-count.keeper c.loop-count.input c.loop-count.output
    c.close_unless.new.replies.items c.close_unless.new.keeper c.close_unless.new.output c.may_be_done-is_now.result c.loop-count.invariant.taken c.loop-count.invariant.noted
    c.loop-count.invariant.room up c.in_default-close_unless.ensures.open c.in_default-close_unless.ensures.closed in
    let kept = kept_before g.K.Keeper g.K.Reply.Told.text g.I.Lines g.O.Outbox g.I.Ahead.ahead c.args.keeper.now c.args.input.now c.args.output.now c.loop-count.count c.loop-count.replies.items c.loop-count.keeper c.loop-count.input c.loop-count.output
    c.close_unless.new.replies.items c.close_unless.new.keeper c.close_unless.new.output c.may_be_done-is_now.result (comes_apart g.K.Keeper.is_apart c.in-Ok.what) c.loop-count.invariant.taken
    c.may_be_done-is_now.ensures.may c.in_default-close_unless.ensures.open c.in_default-close_unless.ensures.closed in
    let taken = turned g.K.Keeper g.K.Reply.Told.text g.I.Lines g.O.Outbox g.I.Ahead.ahead c.args.keeper.now c.args.input.now c.args.output.now c.loop-count.count c.close_unless.new.replies.items c.close_unless.new.keeper c.loop-count.input c.close_unless.new.output
    c.in-Ok.what c.in-Some.reply c.reply_to_next.new.keeper c.next_unless_waiting.new.input before.0 before.3 kept c.in-Ok.ensures.comes c.in-Ok.ensures.gives c.in-Some.ensures.replies in
    let after = one_taken g.K.Keeper g.K.Reply.Told.text g.I.Lines g.O.Outbox g.I.Ahead.ahead c.args.keeper.now c.args.input.now c.args.output.now (c.loop-count.count + 1) c.close_unless.new.replies.items c.reply_to_next.new.keeper c.next_unless_waiting.new.input c.close_unless.new.output
    c.in-Some.reply c.take.new.replies.items c.take.new.keeper c.take.new.output taken c.in-Some.ensures.noted c.in_default-take.ensures.taken in
    ends_open g.K.Keeper g.K.Reply.Told.text g.I.Lines g.O.Outbox g.I.Ahead.ahead c.args.keeper.now c.args.input.now c.args.output.now _ _ c.in-Err-close_unless.end c.take.new.keeper c.next_unless_waiting.new.input c.take.new.output
    c.close_unless-in-loop-count.new.keeper c.next_unless_waiting.new.input c.close_unless-in-loop-count.new.output after.0 (inl (inl refl)) c.in-Err-close_unless.ensures.fails

pub loop-count-preserved : goal.loop-count-preserved
loop-count-preserved g c =
    let up : g.K.Keeper.up c.loop-count.keeper ≡ true = cc (c.can_act.ensures, c.if-not-can_act.false) in
    let before = before_line g.K.Keeper g.K.Reply.Told.text g.I.Lines g.O.Outbox g.I.Ahead.ahead c.args.keeper.now c.args.input.now c.args.output.now c.loop-count.count c.loop-count.replies.items c.loop-count.keeper c.loop-count.input c.loop-count.output
    c.close_unless.new.replies.items c.close_unless.new.keeper c.close_unless.new.output c.may_be_done-is_now.result c.loop-count.invariant.taken c.loop-count.invariant.noted
    c.loop-count.invariant.room up c.in_default-close_unless.ensures.open c.in_default-close_unless.ensures.closed in
    let kept = kept_before g.K.Keeper g.K.Reply.Told.text g.I.Lines g.O.Outbox g.I.Ahead.ahead c.args.keeper.now c.args.input.now c.args.output.now c.loop-count.count c.loop-count.replies.items c.loop-count.keeper c.loop-count.input c.loop-count.output
    c.close_unless.new.replies.items c.close_unless.new.keeper c.close_unless.new.output c.may_be_done-is_now.result (comes_apart g.K.Keeper.is_apart c.in-Ok.what) c.loop-count.invariant.taken
    c.may_be_done-is_now.ensures.may c.in_default-close_unless.ensures.open c.in_default-close_unless.ensures.closed in
    let taken = turned g.K.Keeper g.K.Reply.Told.text g.I.Lines g.O.Outbox g.I.Ahead.ahead c.args.keeper.now c.args.input.now c.args.output.now c.loop-count.count c.close_unless.new.replies.items c.close_unless.new.keeper c.loop-count.input c.close_unless.new.output
    c.in-Ok.what c.in-Some.reply c.reply_to_next.new.keeper c.next_unless_waiting.new.input before.0 before.3 kept c.in-Ok.ensures.comes c.in-Ok.ensures.gives c.in-Some.ensures.replies in
    let after = one_taken g.K.Keeper g.K.Reply.Told.text g.I.Lines g.O.Outbox g.I.Ahead.ahead c.args.keeper.now c.args.input.now c.args.output.now (c.loop-count.count + 1) c.close_unless.new.replies.items c.reply_to_next.new.keeper c.next_unless_waiting.new.input c.close_unless.new.output
    c.in-Some.reply c.take.new.replies.items c.take.new.keeper c.take.new.output taken c.in-Some.ensures.noted c.in_default-take.ensures.taken in
    goes_on g.K.Keeper g.K.Reply.Told.text g.I.Lines g.O.Outbox g.I.Ahead.ahead c.args.keeper.now c.args.input.now c.args.output.now (c.loop-count.count + 1) c.take.new.replies.items c.take.new.keeper c.next_unless_waiting.new.input c.take.new.output
    c.close_unless-in-loop-count.new.replies.items c.close_unless-in-loop-count.new.keeper c.close_unless-in-loop-count.new.output c.has_more-goes_on.result after.0 after.1
    c.has_more-goes_on.ensures.room c.has_more-goes_on.ensures.up c.has_more-goes_on.ensures.ahead c.in_default-close_unless-2.ensures.open c.in_default-close_unless-2.ensures.closed

pub returns : goal.returns
returns g c =
    ends_spent g.K.Keeper g.K.Reply.Told.text g.I.Lines g.O.Outbox g.I.Ahead.ahead c.args.keeper.now c.args.input.now c.args.output.now c.loop-count.count c.loop-count.replies.items c.close_before-2.result c.loop-count.keeper c.loop-count.input c.loop-count.output
    c.close_before-2.new.keeper c.close_before-2.new.output c.loop-count.invariant.taken (omega (arith, c.loop-count-test.false)) c.close_before-2.ensures
