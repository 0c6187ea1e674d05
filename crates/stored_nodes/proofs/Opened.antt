-- What an open finds is in the files.
use Rattle.std.proofs.Common.{◌≡◌, Bool, ℕ, List, inl, inr, ap, ap₂, subst, subst₂, sym, ◌∙◌}
use Rattle.std.proofs.lemmas.Bool.{and_from, and_parts}
use Rattle.std.proofs.Math.Logic.{∥∥₁_map}
use Rattle.acceptor.specs.Content.{Content}
use Rattle.acceptor_store_parts.specs.declared.owner.Owner.{Owner}
use Rattle.acceptor_store.specs.Linked.{Had}
use Rattle.acceptor_store_parts.specs.Stored.{AreTablesOf}
use Rattle.stored_nodes.specs.Kept.{IsFoundFor, IsFoundIn, IsIn, IsOwnedIn}
use Rattle.stored_nodes.specs.Lost.{IsDueBefore, TellsShown}
use Rattle.stored_nodes.specs.declared.start.StartFault.{StartFault}
use Rattle.sqlite.specs.Effect.{Database, IsDatabase}
use Rattle.sqlite.specs.Files.{file_state, image_of, over_files, AreFoundIn, Finds, HoldsDatabase, IsOpened}
use Rattle.sqlite_wal.specs.Reads.{OnlyReads}
use Rattle.sqlite_wal.specs.Recovery.{Image}
use Rattle.sqlite.specs.Held.{Held}
use Rattle.sqlite.proofs.Theorems.{opens_again}
use Rattle.sqlite_disk.specs.declared.Disk as disk
use Rattle.sqlite_disk.specs.declared.Files.{Files}
use Rattle.sqlite_store.specs.declared.store.FileStore.{FileStore}

abbrev image_with : List ℕ → List ℕ → Image
image_with log db = record { log = log; db = db }

-- where the files are what a store might have left, a content that is in them is one of those that this store might
-- leave
pub found_also : {D : Type 0} {g : disk.Ghosts D} (files : Files D) (owner : Owner) (is_new : Bool) (c : Content) → IsOwnedIn g files owner is_new c → IsFoundFor g files owner is_new c
found_also {g = g} files owner is_new c is = (is, λ it might. ∥∥₁_map (opens_again it might.numbered might.sound (image_of g files) might.left) (λ db. (db.0, db.1, is db.0 db.2)))

-- what was found in files that were only read since is found in what they were
pub found_before : {D : Type 0} {g : disk.Ghosts D} (old new : Files D) (conn : Held (FileStore D g)) → OnlyReads g old.log new.log → OnlyReads g old.db new.db → Finds new conn → Finds old conn
found_before {g = g} old new conn log db finds =
    let same : image_of g new ≡ image_of g old = ap₂ image_with log.seen db.seen in
    let sure = and_parts (g.is_clean new.log) (g.is_clean new.db) finds.honest in
    record {
      honest = and_from (g.is_clean old.log) (g.is_clean old.db) (log.clean sure.0) (db.clean sure.1);
      holds = λ trees holds. finds.holds trees (subst (λ i. HoldsDatabase i trees) (sym same) holds);
      reads = subst (λ i. AreFoundIn i (file_state conn).committed.trees) same finds.reads;
    }

-- what an open for nobody had is in the files
is_in : {D : Type 0} {g : disk.Ghosts D} (files : Files D) (conn : Held (FileStore D g)) (c : Content) → IsOpened conn → Finds files conn → Had over_files conn c → IsIn g files c
is_in {g = g} files conn c opened finds had db holds =
    let is = finds.holds db holds in
    elim had [
      | inl blank ↦
          let trees : (file_state conn).now.trees ≡ db = ap (λ (d : Database). d.trees) opened.0.clean ∙ is in
          let sure = (opened.1 opened.0.is_open).0 in
          inr (subst₂ (λ s t. IsDatabase (record { schema = s; trees = t })) blank.0 trees sure, blank.1)
      | inr tables ↦ inl (tables.0, subst (λ t. AreTablesOf tables.0 t c) is tables.1.1)
    ]

-- and where these are what a store might have left, it is one of the contents that this store might leave
pub found_in : {D : Type 0} {g : disk.Ghosts D} (files : Files D) (conn : Held (FileStore D g)) (c : Content) → IsOpened conn → Finds files conn → Had over_files conn c → IsFoundIn g files c
found_in {g = g} files conn c opened finds had =
    let is = is_in {g = g} files conn c opened finds had in
    (is, λ it might. ∥∥₁_map (opens_again it might.numbered might.sound (image_of g files) might.left) (λ db. (db.0, db.1, is db.0 db.2)))

-- a loss that is told before an open shows in the files
pub told_shown : (image : Image) (old new : ℕ) (fault : StartFault) → IsDueBefore image old new fault → TellsShown image fault
told_shown image old new fault due loss is = subst (IsDueBefore image old new) is due
