use Rattle.std.proofs.Common.{◌∙◌}
use Rattle.ballots.specs.Members.{member_count}
use Rattle.seats.proofs.Callers.{none_first, next_first, all_first}
use Rattle.stored_nodes.proofs.Counts.{reached, none_below, more_below}
use Rattle.stored_nodes.proofs.stored.nodes_over.Goals as goal

pub loop-number-init : goal.loop-number-init
loop-number-init g c = (none_below (member_count c.args.members), none_first _ _ _ _ _ c.new-nodes.ensures.items)

pub loop-number-preserved : goal.loop-number-preserved
loop-number-preserved g c = (
  more_below c.loop-number.number _ _ c.loop-number-test.true c.count-number-end.ensures,
  next_first _ _ _ _ c.loop-number.number _ _ c.in_ok-node.node c.loop-number.invariant.1 c.in_ok-node.ensures.id c.in_ok-node.ensures.members c.in_ok-node.ensures.up (λ honest. c.in_ok-node.ensures.fresh honest) c.in-Ok.ensures.items,
)

pub returns-clause-fresh : goal.returns-clause-fresh
returns-clause-fresh g c = all_first _ _ _ _ _ _ c.loop-number.invariant.1 (reached _ _ _ c.loop-number.invariant.0 c.loop-number-test.false c.count-number-end.ensures)

pub returns-clause-count : goal.returns-clause-count
returns-clause-count g c = c.loop-number.invariant.1.count ∙ reached _ _ _ c.loop-number.invariant.0 c.loop-number-test.false c.count-number-end.ensures
