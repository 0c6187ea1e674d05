-- What an open of a store's own files finds.
use Rattle.std.proofs.Common.{◌≡◌, IsTrue, sym, subst}
use Rattle.sqlite_disk.specs.declared.Disk.{Ghosts}
use Rattle.sqlite_disk.specs.declared.Files.{Files}
use Rattle.sqlite_wal.proofs.LogLemmas.{SeenMayStay}
use Rattle.sqlite_wal.specs.Files.{seen_image}
use Rattle.sqlite_wal.specs.Reads.{are_clean}
use Rattle.sqlite_pool.proofs.StateLemmas.{seen_may_be_left, clean_is}
use Rattle.sqlite_trees.specs.View.{IsClean}
use Rattle.sqlite_trees.proofs.Doubt.{no_doubt}
use Rattle.sqlite_store.specs.declared.store.FileStore.{FileStore}
use Rattle.sqlite_store.specs.FileStore.{view, recovers, files, state}
use Rattle.sqlite.specs.Held.{Held, AreDatabases}
use Rattle.sqlite.specs.Files.{file_state, Finds}
use Rattle.sqlite.specs.Start.{FindsIn}
use Rattle.sqlite.proofs.Theorems.{next_run}

module _ {D : Type 0} {g : Ghosts D} (c : Held (FileStore D g)) (store : FileStore D g) (given : Files D) (at : (given.log, given.db) ≡ files store) (found : Finds given c) where
  shut : IsTrue (view store).is_clean
  shut =
      let honest : IsTrue (are_clean g (files store).0 (files store).1) = subst (λ (fs : D × D). IsTrue (are_clean g fs.0 fs.1)) at found.honest in
      subst IsTrue (sym (clean_is store.pool)) honest

  pub was_clean : IsClean (view store)
  was_clean = no_doubt _ shut

  pub finds_left : SeenMayStay g → IsTrue (view store).is_numbered → AreDatabases (recovers store) → ∥ recovers store (file_state c).committed.trees ∥₁
  finds_left stays numbered sound =
      let left = seen_image g given.log given.db in
      let may = subst (λ (fs : D × D). (state store).may_leave (seen_image g fs.0 fs.1)) (sym at) (seen_may_be_left store.pool stays shut) in
      let finds : FindsIn left (file_state c) = record { holds = found.holds; reads = found.reads } in
      next_run store numbered sound left may (file_state c) finds
