use Rattle.std.proofs.Common.{◌++◌, length, ap}
use Rattle.grant_machine_parts.specs.Ranks.{of_priority}
use Rattle.grant_machine_parts.proofs.Chained.{one_on, fewer}
use Rattle.grant_machine_parts.proofs.chains.Chains.add.Goals as goal

pub loop-number-preserved : goal.loop-number-preserved
loop-number-preserved c =
    let to_come = c.loop-number.invariant in
    let on = one_on c.args.self.now.firsts c.args.self.now.nexts c.args.ranked.now c.loop-number.ordered.items c.add_at.new.ordered.items (c.args.ordered.now.items ++ of_priority c.args.ranked.now c.args.priority) c.args.priority to_come.0
    c.loop-number.number c.from-number-in-loop-number.result c.requires.chains c.requires.known to_come.2 c.loop-number-test.true to_come.1 c.in_ok-add_at.ensures c.from-number-in-loop-number.ensures in
    (c.loop-number.number, on.0, on.1)

pub loop-number-smaller : goal.loop-number-smaller
loop-number-smaller c =
    let to_come = c.loop-number.invariant in
    fewer c.args.ranked.now c.loop-number.ordered.items c.add_at.new.ordered.items c.args.priority to_come.0 c.loop-number.number (length (c.args.ordered.now.items ++ of_priority c.args.ranked.now c.args.priority)) (ap length to_come.1) to_come.2 c.loop-number-test.true c.in_ok-add_at.ensures
