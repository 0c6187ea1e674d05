-- What a copy in memory is, and what an open of it reads.
use Rattle.std.proofs.Common.{◌≡◌, ◌∙◌, ◌<◌, ◌≤◌, ◌+◌, ◌⊎◌, ◌==◌, inl, inr, ℕ, List, [], ◌++◌, length, take, drop, slice_index, if◌then◌else◌, IsTrue, true, false, Bool, refl, sym, subst, ap, arith, eq-eqb, zero, suc}
use Rattle.std.proofs.lemmas.Grind.{same_number_lists}
use Rattle.std.proofs.Math.ListN.{get_or}
use Rattle.std.proofs.Math.Seq.{take-append_seam}
use Rattle.acceptor_store.specs.declared.OpenFault.{OpenFault}
use Rattle.acceptor_store.specs.declared.OpenFault.TheVariants.{OutOfMemory, Refused}
use Rattle.sqlite.specs.Effect.{Database}
use Rattle.sqlite.specs.Files.{AreFoundIn, FailsToOpenFiles, Finds, IsCleanLeft, IsOpened, file_state, image_of, over_files, tally_left}
use Rattle.sqlite.specs.Held.{Held}
use Rattle.sqlite.specs.State.{store_error}
use Rattle.sqlite.specs.Closing.{files_left}
use Rattle.sqlite.specs.declared.error.Error.{Error}
use Rattle.sqlite.specs.declared.error.Error.TheVariants.{SqliteFailure}
use Rattle.sqlite.specs.declared.error.ErrorCode.TheVariants as code
use Rattle.sqlite.specs.declared.file.Leftover.{Leftover}
use Rattle.sqlite.specs.declared.file.Leftover.TheVariants as left
use Rattle.sqlite_disk.specs.Disk.{Holds, Torn}
use Rattle.sqlite_disk.specs.declared.Disk as disk
use Rattle.sqlite_disk.specs.declared.Files.{Files}
use Rattle.sqlite_disk.specs.declared.tally.Tally.{Tally}
use Rattle.sqlite_pool.specs.Pool as pool
use Rattle.sqlite_store.specs.declared.store.FileStore.{FileStore}
use Rattle.sqlite_store.specs.FileStore.{view}
use Rattle.sqlite_store.specs.Report.{named}
use Rattle.sqlite_trees.proofs.Doubt.{no_doubt}
use Rattle.sqlite_trees.specs.View.{IsClean}
use Rattle.sqlite_trees.specs.declared.error.StoreError.{StoreError}
use Rattle.sqlite_trees.specs.declared.error.StoreError.TheVariants as stored
use Rattle.sqlite_wal.specs.Reads.{tally_of_files}
use Rattle.stored_nodes.specs.Looks.{AlwaysClean, IsNoDatabase, IsRead}
use Rattle.stored_nodes.specs.Lost.{NeverLies}

at_least : (n m : ℕ) → (0 < n → n ≤ m) → n ≤ m
at_least zero m there = omega arith
at_least (suc n) m there = there (omega arith)

-- a file in memory that was written in one piece is what was written
pub copy_same : (seen bytes memory : List ℕ) → length bytes ≡ length seen → (0 < length bytes → Holds seen 0 bytes) → (0 < length bytes → Holds memory 0 bytes) → Torn 0 (length bytes) [] memory → memory ≡ seen
copy_same seen bytes memory len read wrote torn =
    let most : length memory ≤ length bytes = omega (arith, torn.no_longer) in
    let least = at_least (length bytes) (length memory) (λ some. omega (arith, (wrote some).within)) in
    same_number_lists memory seen (omega (arith, most, least, len)) (λ k below.
    let here : k < length bytes = omega (arith, most, below) in
    let some : 0 < length bytes = omega (arith, here) in
    let is : 0 + k ≡ k = omega arith in
    subst (λ j. get_or memory j 0 ≡ slice_index bytes k) is ((wrote some).each k here) ∙ sym (subst (λ j. get_or seen j 0 ≡ slice_index bytes k) is ((read some).each k here)))

-- so it is what was read into a buffer of the file's length
pub copied_whole : (seen buf items written memory : List ℕ) (size : ℕ) → written ≡ take size (buf ++ drop (length buf) items) → length buf ≡ size → size ≡ length seen → (0 < length buf → Holds seen 0 buf)
    → (0 < length written → Holds memory 0 written) → Torn 0 (length written) [] memory → memory ≡ seen
copied_whole seen buf items written memory size is long len read wrote torn =
    let whole : written ≡ buf = is ∙ subst (λ n. take n (buf ++ drop (length buf) items) ≡ buf) long (take-append_seam buf (drop (length buf) items)) in
    copy_same seen written memory (ap length whole ∙ long ∙ len) (λ some. subst (λ xs. Holds seen 0 xs) (sym whole) (read (subst (λ xs. 0 < length xs) whole some))) wrote torn

-- over a disk that gives no wrong answer each store is clean
always_true : {D : Type 0} {g : disk.Ghosts D} → NeverLies g → (it : FileStore D g) → IsTrue (view it).is_clean
unfolding pool.state
always_true never it = never _ _

pub always_clean : {D : Type 0} {g : disk.Ghosts D} → NeverLies g → (it : FileStore D g) → IsClean (view it)
always_clean never it = no_doubt (view it).is_clean (always_true never it)

pub each_clean : {D : Type 0} {g : disk.Ghosts D} → NeverLies g → AlwaysClean (over_files {g = g})
each_clean never = λ it. always_clean never it

-- and so is what an open that failed left
pub clean_left : {D : Type 0} {g : disk.Ghosts D} → NeverLies g → (rest : Leftover D g) → IsCleanLeft rest
unfolding pool.state
clean_left never (left.Files files) = never _ _
clean_left never (left.Unopened files) = never _ _
clean_left never (left.Store it) = always_true never it

-- a connection that was opened over files has read what they hold
pub read_by : {D : Type 0} {g : disk.Ghosts D} (files : Files D) (conn : Held (FileStore D g)) → IsOpened conn → Finds files conn → IsRead (image_of g files) (file_state conn).now
read_by {g = g} files conn opened finds =
    let same = ap (λ (d : Database). d.trees) opened.0.clean in
    record {
      sound = (opened.1 opened.0.is_open).0;
      found = subst (λ t. AreFoundIn (image_of g files) t) (sym same) finds.reads;
      holds = λ db held. same ∙ finds.holds db held;
    }

tally_there : {D : Type 0} {g : disk.Ghosts D} (rest : Leftover D g) → tally_left rest ≡ tally_of_files g (files_left rest)
tally_there (left.Files files) = refl
tally_there (left.Unopened files) = refl
tally_there (left.Store it) = refl

not_unsound : (kind : StoreError) → store_error kind ≡ SqliteFailure code.NotADatabase → ⊥
not_unsound stored.OutOfMemory is = cc is
not_unsound stored.Io is = cc is
not_unsound stored.Corrupt is = cc is
not_unsound stored.Full is = cc is
not_unsound stored.Broken is = cc is
not_unsound stored.Unstorable is = cc is

other_name : (is_same is_full : Bool) → is_same ≡ true → store_error (if is_same then (if is_full then stored.Io else stored.Full) else stored.Corrupt) ≡ SqliteFailure code.DatabaseCorrupt → ⊥
other_name true true same is = cc is
other_name true false same is = cc is
other_name false full same is = cc same

-- no fault is named Corrupt where no read met damage
not_damaged : (old new : Tally) → new.caught ≡ old.caught → store_error (named old new) ≡ SqliteFailure code.DatabaseCorrupt → ⊥
not_damaged old new same is = other_name (new.caught == old.caught) (new.refused == old.refused) (eq-eqb _ _ same) is

-- an open that refused the files for what they are
abbrev pub IsRefusal : Tally → Tally → Error → Type 0
IsRefusal before since e = (e ≡ SqliteFailure code.NotADatabase) ⊎ ((e ≡ SqliteFailure code.DatabaseCorrupt) × (since.caught ≡ before.caught))

pub no_database : {D : Type 0} {g : disk.Ghosts D} (files : Files D) (rest : Leftover D g) (e : Error) (since : Tally) → since ≡ tally_of_files g (files_left rest) → FailsToOpenFiles files rest e
    → IsRefusal (tally_of_files g (files.log, files.db)) since e → IsNoDatabase (image_of g files)
no_database {g = g} files rest e since there fails refused = elim fails [
  | inl memory ↦ elim refused [
    | inl it ↦ absurd (cc (memory, it))
    | inr it ↦ absurd (cc (memory, it.0))
  ]
  | inr (inl it) ↦ it.1
  | inr (inr (inl it)) ↦ elim refused [
    | inl is ↦ absurd (not_unsound _ (sym it.0 ∙ is))
    | inr is ↦ absurd (not_damaged _ _ (ap (λ (t : Tally). t.caught) (tally_there rest ∙ sym there) ∙ is.1) (sym it.0 ∙ is.0))
  ]
  | inr (inr (inr full)) ↦ elim refused [
    | inl it ↦ absurd (cc (full.0, it))
    | inr it ↦ absurd (cc (full.0, it.0))
  ]
]

-- so is what is told of such an open
pub refused_so : {D : Type 0} {g : disk.Ghosts D} (files : Files D) (rest : Leftover D g) (e : Error) (before since : Tally) (fault : OpenFault) → before ≡ tally_of_files g (files.log, files.db)
    → since ≡ tally_of_files g (files_left rest) → FailsToOpenFiles files rest e → (fault ≡ OutOfMemory) ⊎ ((fault ≡ Refused) × IsRefusal before since e)
    → (fault ≡ OutOfMemory) ⊎ ((fault ≡ Refused) × IsNoDatabase (image_of g files))
refused_so {g = g} files rest e before since fault was there fails told = elim told [
  | inl memory ↦ inl memory
  | inr it ↦ inr (it.0, no_database {g = g} files rest e since there fails (subst (λ t. IsRefusal t since e) was it.1))
]
