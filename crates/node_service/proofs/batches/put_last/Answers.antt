use Rattle.std.proofs.Common.{◌≡◌, true, rules}
use Rattle.node_service.proofs.Batching.{one_stops}
use Rattle.node_service.proofs.batches.put_last.Goals as goal

pub returns-in-Some-clause-fails : goal.returns-in-Some-clause-fails
returns-in-Some-clause-fails g c =
    let passes : g.K.Keeper.may_tell c.args.told.now c.in-Some.reply ≡ true = search rules in
    one_stops g.K.Reply.Told.text g.O.Outbox (g.K.Keeper.may_tell c.args.told.now) c.args.last.now c.in-Some.reply c.put_left.result c.args.output.now c.put_left.new.output
    c.in-Some.is passes c.put_left.ensures.fails
