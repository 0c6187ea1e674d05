-- What a copied log leaves in the database file, and what is known of files without tables.
use Rattle.std.proofs.Common.{◌≡◌, ◌≢◌, inl, inr, true, false, Some, Ok, Err, Result, IfOk, OnOk, refl, sym, ap}
use Rattle.std.proofs.Common.{Bool, Option, subst, subst₂, true≢false, ◌∙◌}
use Rattle.std.proofs.Math.Logic.{∥∥₁_elim}
use Rattle.acceptor.specs.Content.{Content, no_content}
use Rattle.acceptor.specs.Found.{Holds}
use Rattle.acceptor_store.specs.Linked.{Linked, MayFind, IsHonest}
use Rattle.acceptor_store.specs.Owning.{HadAs}
use Rattle.acceptor_store_parts.specs.declared.owner.Owner.{Owner}
use Rattle.acceptor_store_parts.specs.Owned.{AreOwnedBy, AreTablesFor}
use Rattle.acceptor_store_parts.specs.Serves.{ServesFor}
use Rattle.acceptor_store_parts.specs.Tables.{blank_schema}
use Rattle.acceptor_store_parts.proofs.Once.{content_once}
use Rattle.log_ties.specs.Ties.{IsUncopied}
use Rattle.log_ties.specs.declared.tie.Tie.{Tie}
use Rattle.log_ties.specs.declared.tie.Tie.TheVariants.{New, Begun, Tied, Lost}
use Rattle.sqlite.specs.Effect.{Database, IsDatabase}
use Rattle.sqlite.specs.Files.{over_files, file_state, image_of, IsOpened, Finds}
use Rattle.sqlite.specs.Held.{Held}
use Rattle.sqlite.specs.State.{HasCleanDisk}
use Rattle.sqlite_disk.specs.declared.Disk as disk
use Rattle.sqlite_disk.specs.declared.Files.{Files}
use Rattle.sqlite_store.specs.declared.store.FileStore.{FileStore}
use Rattle.sqlite.specs.Tree.{Trees}
use Rattle.sqlite_trees.specs.Props.{Trees-set}
use Rattle.stored_nodes.specs.Alone.{IsAlone, IsBegunIn, IsBlankIn, IsInLog, ReadsCopy}
use Rattle.stored_nodes.specs.Kept.{IsFoundFor, IsOwnedAs}
use Rattle.stored_nodes.specs.Starts.{ComesOfStart}
use Rattle.stored_nodes.proofs.Opened.{found_also}
use Rattle.stored_nodes.proofs.Started.{comes_anyhow}

-- tables of an owner in version 4 hold no other content, and aren't those of version 3
owned_once : (owner : Owner) (db : Trees) (c d : Content) → AreOwnedBy owner db c → AreTablesFor (Some owner) db d → c ≡ d
owned_once owner db c d (inl are) now = content_once (Some owner) db c d are now
owned_once owner db c d (inr before) now = absurd (let rows = sym before.1 ∙ now.owned.1.1 in cc rows)

-- a connection that was opened over a copied log
module _ {D : Type 0} {g : disk.Ghosts D} (old new : Held (FileStore D g)) (it : ReadsCopy old new) where
  -- it has what had been committed
  pub same_committed : (file_state new).committed.trees ≡ (file_state old).committed.trees
  same_committed = ∥∥₁_elim it.copied.seen.both (Trees-set (file_state new).committed.trees (file_state old).committed.trees) (λ held. it.found.holds (file_state old).committed.trees held)

  -- so the database file holds by itself what it has
  pub is_alone : (owner : Owner) (c : Content) → AreOwnedBy owner (file_state new).committed.trees c → IsAlone g owner c
  is_alone owner c are = (
    it.last,
    record { tables = (file_state old).committed.trees; are = subst (λ t. AreOwnedBy owner t c) same_committed are; seen = it.copied.seen; left = it.copied.left },
  )

-- the records over it hold nothing, where there was nothing else to be copied
pub made_alone : {D E : Type 0} {g : disk.Ghosts D} (owner : Owner) (made new : Held (FileStore D g)) (r : Result (Linked (FileStore D g)) E) → (HasCleanDisk (file_state made) → ServesFor (Some owner) (file_state made) no_content)
    → (HasCleanDisk (file_state new) → ReadsCopy made new)
    → IfOk r (λ x. IsHonest over_files x → (c : Content) × IsOwnedAs owner (file_state new).committed.trees c × Holds (MayFind over_files x.owner x.held) c)
    → IfOk r (λ x. IsHonest over_files x → HasCleanDisk (file_state new)) → IfOk r (λ x. IsHonest over_files x → Holds (MayFind over_files x.owner x.held) no_content × IsAlone g owner no_content)
made_alone owner made new (Err e) serves copied holds clean = tt
made_alone {g = g} owner made new (Ok x) serves copied holds clean = λ honest.
    let it = copied (clean honest) in
    let had = holds honest in
    let is = serves it.copied.was_clean in
    let before : AreTablesFor (Some owner) (file_state made).committed.trees no_content = subst (λ (d : Database). AreTablesFor (Some owner) d.trees no_content) is.settled is.tables in
    let here : AreOwnedBy owner (file_state made).committed.trees had.0 = subst (λ t. AreOwnedBy owner t had.0) (same_committed made new it) had.1.0 in
    let none : had.0 ≡ no_content = owned_once owner (file_state made).committed.trees had.0 no_content here before in
    (subst (λ c. Holds (MayFind over_files x.owner x.held) c) none had.2, subst (λ c. IsAlone g owner c) none (is_alone made new it owner had.0 had.1.0))

-- a connection that was opened over a copied log, or stayed as it was where the log had been copied
abbrev Settles : {D : Type 0} {g : disk.Ghosts D} → Tie → Held (FileStore D g) → Held (FileStore D g) → Type 0
Settles tie old new = (tie ≡ Tied → new ≡ old) × (tie ≢ Tied → HasCleanDisk (file_state new) → ReadsCopy old new)

module _ {D : Type 0} {g : disk.Ghosts D} (old new : Held (FileStore D g)) where
  -- what it has was there, and what it has is in the database file by itself, if the log had to be copied
  abbrev IsSame : Tie → Type 0
  IsSame tie =
      HasCleanDisk (file_state old) × ((file_state new).committed.trees ≡ (file_state old).committed.trees)
      × ((owner : Owner) (c : Content) → tie ≢ Tied → AreOwnedBy owner (file_state new).committed.trees c → IsAlone g owner c)

  by_copy : (tie : Tie) → ReadsCopy old new → IsSame tie
  by_copy tie it = (it.copied.was_clean, same_committed old new it, λ owner c other are. is_alone old new it owner c are)

  pub settled_same : (tie : Tie) → Settles tie old new → HasCleanDisk (file_state new) → IsSame tie
  settled_same Tied settles clean = let same = settles.0 refl in (
    subst (λ (c : Held (FileStore D g)). HasCleanDisk (file_state c)) same clean,
    ap (λ (c : Held (FileStore D g)). (file_state c).committed.trees) same,
    λ owner c other are. absurd (other refl),
  )
  settled_same New settles clean = by_copy New (settles.1 (λ is. cc is) clean)
  settled_same Begun settles clean = by_copy Begun (settles.1 (λ is. cc is) clean)
  settled_same (Lost loss) settles clean = by_copy (Lost loss) (settles.1 (λ is. cc is) clean)

-- so the records over it hold what was there
pub old_alone : {D E : Type 0} {g : disk.Ghosts D} (owner : Owner) (tie : Tie) (old new : Held (FileStore D g)) (r : Result (Linked (FileStore D g)) E) → Settles tie old new
    → IfOk r (λ x. IsHonest over_files x → (c : Content) × IsOwnedAs owner (file_state new).committed.trees c × Holds (MayFind over_files x.owner x.held) c)
    → IfOk r (λ x. IsHonest over_files x → HasCleanDisk (file_state new))
    → IfOk r (λ x. IsHonest over_files x → (c : Content) × IsOwnedAs owner (file_state old).committed.trees c × Holds (MayFind over_files x.owner x.held) c × (tie ≢ Tied → IsAlone g owner c))
old_alone owner tie old new (Err e) settles holds clean = tt
old_alone owner tie old new (Ok x) settles holds clean = λ honest.
    let had = holds honest in
    let same = settled_same old new tie settles (clean honest) in
    (had.0, subst (λ t. IsOwnedAs owner t had.0) same.1 had.1, had.2, λ other. same.2 owner had.0 other had.1.0)

-- and had a clean disk where these are honest
pub was_clean : {D E : Type 0} {g : disk.Ghosts D} (tie : Tie) (old new : Held (FileStore D g)) (r : Result (Linked (FileStore D g)) E) → Settles tie old new
    → IfOk r (λ x. IsHonest over_files x → HasCleanDisk (file_state new)) → IfOk r (λ x. IsHonest over_files x → HasCleanDisk (file_state old))
was_clean tie old new (Err e) settles clean = tt
was_clean tie old new (Ok x) settles clean = λ honest. (settled_same old new tie settles (clean honest)).0

-- tables of an owner that may not be new are in the last commit
pub owned_as : {D : Type 0} {g : disk.Ghosts D} (owner : Owner) (conn : Held (FileStore D g)) (c : Content) → HadAs over_files owner false conn c → IsOwnedAs owner (file_state conn).committed.trees c
owned_as owner conn c (inl blank) = absurd (true≢false (sym blank.1))
owned_as owner conn c (inr had) = (had.1, had.2)

-- files over which a connection without tables was opened have none
pub blank_in : {D : Type 0} {g : disk.Ghosts D} (files : Files D) (conn : Held (FileStore D g)) → IsOpened conn → Finds files conn → (file_state conn).now.schema ≡ blank_schema → IsBlankIn g files
blank_in files conn opened finds blank db holds =
    let trees : (file_state conn).now.trees ≡ db = ap (λ (d : Database). d.trees) opened.0.clean ∙ finds.holds db holds in
    subst₂ (λ s t. IsDatabase (record { schema = s; trees = t })) blank trees (opened.1 opened.0.is_open).0

-- so nothing is found there, where they may be new
pub none_found : {D : Type 0} {g : disk.Ghosts D} (files : Files D) (owner : Owner) → IsBlankIn g files → IsFoundFor g files owner true no_content
none_found {g = g} files owner blank = found_also {g = g} files owner true no_content (λ db holds. inr (blank db holds, refl, refl))

-- and what the last commit had as this owner's is found there
pub found_old : {D : Type 0} {g : disk.Ghosts D} (files : Files D) (owner : Owner) (conn : Held (FileStore D g)) (c : Content) → Finds files conn → IsOwnedAs owner (file_state conn).committed.trees c → IsFoundFor g files owner false c
found_old {g = g} files owner conn c finds had = found_also {g = g} files owner false c (λ db holds. inl (subst (λ t. IsOwnedAs owner t c) (finds.holds db holds) had))

-- a log that was copied isn't what all was written in
pub copied_first : {D : Type 0} (g : disk.Ghosts D) (files : Files D) (tie : Tie) → (tie ≡ Tied → ¬ IsUncopied (image_of g files).log) → IsInLog false (image_of g files) → tie ≢ Tied
copied_first g files tie told (inl is_new) tied = true≢false (sym is_new)
copied_first g files tie told (inr uncopied) tied = told tied uncopied

-- an owner begins over the content that its records hold
abbrev pub BeginsWith : {D : Type 0} {g : disk.Ghosts D} → Files D → Owner → Bool → Linked (FileStore D g) → Type 0
BeginsWith {g = g} files owner is_new r = IsHonest over_files r → (c : Content) × Holds (MayFind over_files r.owner r.held) c × IsBegunIn g files owner is_new c

-- as a new one
pub begun_new : {D E : Type 0} {g : disk.Ghosts D} (files : Files D) (owner : Owner) (conn : Held (FileStore D g)) (r : Result (Linked (FileStore D g)) E) → (HasCleanDisk (file_state conn) → IsOpened conn)
    → (HasCleanDisk (file_state conn) → Finds files conn) → IfOk r (λ x. IsHonest over_files x → HasCleanDisk (file_state conn)) → OnOk r ((file_state conn).now.schema ≡ blank_schema)
    → IfOk r (λ x. IsHonest over_files x → Holds (MayFind over_files x.owner x.held) no_content × IsAlone g owner no_content) → IfOk r (BeginsWith files owner true)
begun_new files owner conn (Err e) opened finds clean blank holds = tt
begun_new {g = g} files owner conn (Ok x) opened finds clean blank holds = λ honest.
    let sure = clean honest in
    let none = blank_in {g = g} files conn (opened sure) (finds sure) blank in
    let had = holds honest in
    (no_content, had.0, record { found = none_found {g = g} files owner none; alone = λ _. had.1; blank = λ _. none })

-- or as one that goes on
pub begun_old : {D E : Type 0} {g : disk.Ghosts D} (files : Files D) (owner : Owner) (tie : Tie) (conn : Held (FileStore D g)) (r : Result (Linked (FileStore D g)) E) → (HasCleanDisk (file_state conn) → Finds files conn)
    → (HasCleanDisk (file_state conn) → tie ≡ Tied → ¬ IsUncopied (image_of g files).log) → IfOk r (λ x. IsHonest over_files x → HasCleanDisk (file_state conn))
    → IfOk r (λ x. IsHonest over_files x → (c : Content) × IsOwnedAs owner (file_state conn).committed.trees c × Holds (MayFind over_files x.owner x.held) c × (tie ≢ Tied → IsAlone g owner c))
    → IfOk r (BeginsWith files owner false)
begun_old files owner tie conn (Err e) finds copied clean holds = tt
begun_old {g = g} files owner tie conn (Ok x) finds copied clean holds = λ honest.
    let sure = clean honest in
    let had = holds honest in (
      had.0,
      had.2,
      record {
        found = found_old {g = g} files owner conn had.0 (finds sure) had.1;
        alone = λ in_log. had.3 (copied_first g files tie (copied sure) in_log);
        blank = λ is_new. absurd (true≢false (sym is_new));
      },
    )

-- what comes of a start over some files comes of one over these
pub comes_of_these : {D A E : Type 0} (g : disk.Ghosts D) (owner : Owner) (comes : Option Content → A → Type 0) (is_new : Bool) (files : Files D) (r : Result A E) → IfOk r (ComesOfStart comes (IsBegunIn g files owner) is_new)
    → IfOk r (ComesOfStart comes (λ new c. (some : Files D) × IsBegunIn g some owner new c) is_new)
comes_of_these {D} g owner comes is_new files r came = comes_anyhow comes (IsBegunIn g files owner) (λ new c. (some : Files D) × IsBegunIn g some owner new c) is_new r (λ c here. (files, here)) came
