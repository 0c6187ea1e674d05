use Rattle.std.proofs.Common.{drop, ◌↔◌}
use Rattle.acceptor.specs.Content.{AreRowsFrom}
use Rattle.acceptor_store_parts.proofs.learned.are_rising.Given as goal

abbrev pub invariant-loop-row : goal.invariant-loop-row
invariant-loop-row l = AreRowsFrom l.from (drop l.row-index l.fn.learned) ↔ AreRowsFrom 1 l.fn.learned
