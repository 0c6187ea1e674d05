use Rattle.node_service.proofs.Looping.{IsServing}
use Rattle.node_service.proofs.batches.serve_batched.Given as goal

abbrev pub invariant-loop-count : goal.invariant-loop-count
invariant-loop-count g l =
    IsServing g.K.Keeper g.K.Reply.Told.text g.I.Lines g.O.Outbox g.I.Ahead.ahead l.count l.replies.items l.initial.keeper l.initial.input l.initial.output l.keeper l.input l.output
