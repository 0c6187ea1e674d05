use Rattle.std.proofs.Common.{rules}
use Rattle.replication_tests.proofs.faulty_nodes.faulty_nodes.Goals as goal

pub nodes_by_number-requires-clause-fresh : goal.nodes_by_number-requires-clause-fresh
nodes_by_number-requires-clause-fresh c = λ state after id node below called. search rules
