use Rattle.std.proofs.Common.{arith}
use Rattle.modem.proofs.NextEdges.{HasAt-of_channel, before_order}
use Rattle.modem.proofs.kept.of_channel.Goals as goal

pub slice_bounds-result-start : goal.slice_bounds-result-start
slice_bounds-result-start c = before_order c.args.kept.now _ _ _ _ (omega arith) c.count_before-from.ensures c.place_for-to.ensures

pub slice_bounds-result-count : goal.slice_bounds-result-count
slice_bounds-result-count c = before_order c.args.kept.now _ _ _ _ (omega arith) c.count_before-from.ensures c.place_for-to.ensures

pub returns : goal.returns
returns c =
    let order = before_order c.args.kept.now _ _ c.count_before-from.result c.place_for-to.result (omega arith) c.count_before-from.ensures c.place_for-to.ensures in
    HasAt-of_channel c.args.kept.now c.args.ch c.count_before-from.result c.place_for-to.result order c.count_before-from.ensures c.place_for-to.ensures
