use Rattle.std.proofs.Common.{take}
use Rattle.std.specs.Io.KnownBytes.{Appends}
use Rattle.std.specs.List.{flat_map}
use Rattle.node_service.proofs.Batching.{LeftAt}
use Rattle.node_service.proofs.batches.put_front.Given as goal

abbrev pub invariant-loop-reply : goal.invariant-loop-reply
invariant-loop-reply g l =
    Appends (g.O.Outbox.bytes_held l.initial.output) (g.O.Outbox.bytes_held l.output) (flat_map g.K.Reply.Told.text (take l.reply-index l.replies))
    × LeftAt (g.K.Keeper.may_tell l.told) l.reply-index l.replies
