use Rattle.std.proofs.Common.{◌≡◌, [], take}
use Rattle.acceptor_store.proofs.Words.{AreRowsFrom}
use Rattle.acceptor_store.proofs.batches.copy_all_learned.Given as goal

abbrev pub invariant-loop-row : goal.invariant-loop-row
invariant-loop-row l = AreRowsFrom 1 l.rows → l.fn.records.learned ≡ [] → l.records ≡ record l.fn.records { learned = take l.row-index l.rows }
