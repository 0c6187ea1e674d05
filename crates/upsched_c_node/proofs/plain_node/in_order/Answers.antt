use Rattle.std.proofs.Common.{refl, sym, subst}
use Rattle.acceptor.specs.Content.{Content}
use Rattle.command_log.specs.View.{AreRows}
use Rattle.upsched_c_node.proofs.Exact.{holds}
use Rattle.upsched_c_node.proofs.Learned.{rows_of}
use Rattle.upsched_c_node.proofs.plain_node.in_order.Goals as goal

pub returns-in-Ok-clause-same : goal.returns-in-Ok-clause-same
returns-in-Ok-clause-same c = (c.in-Ok.ensures.kept refl c.votes_from.new.self).1 refl

pub returns-in-Ok-clause-rows : goal.returns-in-Ok-clause-rows
returns-in-Ok-clause-rows c =
    let same = (c.in-Ok.ensures.kept refl c.votes_from.new.self).1 refl in
    subst (λ (r : Content). AreRows 1 r.learned) (sym same) (rows_of 1 c.args.records.learned (c.in-Ok.ensures.sound refl c.args.records (holds c.args.records)).1)
