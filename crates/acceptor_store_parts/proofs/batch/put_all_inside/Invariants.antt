use Rattle.std.proofs.Common.{◌≡◌, take, IsTrue}
use Rattle.sqlite.specs.State.{KeepsCommit}
use Rattle.acceptor_store_parts.proofs.Words.{state, HasCleanDisk, Survives, PutsAllInside}
use Rattle.acceptor_store_parts.proofs.batch.put_all_inside.Given as goal

abbrev pub invariant-loop-bytes : goal.invariant-loop-bytes
invariant-loop-bytes g l =
    let old = state g.S.Store l.fn.tx.conn.now in
    let now = state g.S.Store l.tx.conn.now in
    record {
      reference : l.tx.conn.ghost_name ≡ l.fn.tx.conn.ghost_name;
      put : HasCleanDisk now → IsTrue old.in_transaction → PutsAllInside l.id (take l.bytes-index l.writes) old now;
      kept : HasCleanDisk now → IsTrue old.in_transaction → KeepsCommit old now;
      survives : Survives old now (λ _. ⊥);
    }
