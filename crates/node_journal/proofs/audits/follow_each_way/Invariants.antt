use Rattle.node_journal.specs.Following.{StopsSo}
use Rattle.node_journal.proofs.audits.follow_each_way.Given as goal

abbrev pub invariant-loop : goal.invariant-loop
invariant-loop l = StopsSo l.members l.journals l.furthest × StopsSo l.members l.journals l.last
