use Rattle.std.proofs.Common.{rules}
use Rattle.seats.proofs.opening.plain_nodes.Goals as goal

pub nodes_by_number-requires-clause-fresh : goal.nodes_by_number-requires-clause-fresh
nodes_by_number-requires-clause-fresh c = λ state after id node below called. search rules
