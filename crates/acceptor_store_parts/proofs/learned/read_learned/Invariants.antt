use Rattle.std.proofs.Common.{◌≡◌, take, map}
use Rattle.acceptor_store_parts.proofs.Words.{AllByRecursion, IsLearned, learned_shown}
use Rattle.acceptor_store_parts.proofs.learned.read_learned.Given as goal

abbrev pub invariant-loop-row : goal.invariant-loop-row
invariant-loop-row l = (map learned_shown l.learned.items ≡ take l.row-index l.fn.rows) × AllByRecursion IsLearned l.learned.items
