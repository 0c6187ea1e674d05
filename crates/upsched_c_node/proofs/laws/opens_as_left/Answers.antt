use Rattle.upsched_c_node.proofs.Histories.{as_left, none_strange}
use Rattle.upsched_c_node.proofs.laws.opens_as_left.Goals as goal

pub returns-clause-content : goal.returns-clause-content
returns-clause-content c = as_left

pub returns-clause-strange : goal.returns-clause-strange
returns-clause-strange c = none_strange
