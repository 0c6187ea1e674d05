-- What is read of files of two times.
use Rattle.std.proofs.Common.{◌≡◌, ◌≢◌, ◌<◌, ◌≤◌, ℕ, List, Option, Some, None, IfSome, inl, inr, refl, ◌∙◌, ap, sym, subst, arith, MatchOption}
use Rattle.std.proofs.lemmas.Option.{same_Some}
use Rattle.acceptor_store_parts.specs.declared.Version.TheVariants.{Fourth}
use Rattle.acceptor_store_parts.specs.Tables.{schema_of}
use Rattle.sqlite.specs.Effect.{Database, IsDatabase}
use Rattle.sqlite.specs.State.{State}
use Rattle.sqlite_wal.specs.Recovery.{Image}
use Rattle.log_ties.proofs.CommitLemmas.{commits_once}
use Rattle.acceptor_store_parts.specs.Counts.{HasCount, IsCountOf}
use Rattle.log_ties.specs.Ties.{HasCommits, IsLost}
use Rattle.stored_nodes.specs.Lost.{IsDueBefore, IsDueFor, IsUnknown, TellsLoss}
use Rattle.log_ties.specs.declared.tie.Loss.{Loss}
use Rattle.log_ties.specs.declared.tie.Loss.TheVariants as loss
use Rattle.stored_nodes.specs.declared.start.StartFault.{StartFault}
use Rattle.stored_nodes.specs.declared.start.StartFault.TheVariants.{NoFile, Unusable, Lost, InUse, Unopened, NotFresh}
use Rattle.stored_nodes.specs.declared.start.StartFault.TheVariants.{Unread, OutOfMemory}
use Rattle.stored_nodes.specs.Times.{AllRead, AreApart, AreToldAs, CountsTo, HasCounted, IsOtherTime, IsReadAs, NoneRead, ReadsCount, ShowsOtherTime, alone}

-- where some number of commits was found that isn't above 0, no other is there
pub none_but : (log : List ℕ) (found : Option ℕ) (count n : ℕ) → found ≡ Some count → count ≤ 0 → MatchOption found ((m : ℕ) → ¬ HasCommits log m) (HasCommits log) → HasCommits log n → n ≡ 0
none_but log found count n is low told has =
    let P : Option ℕ → Type 0 = λ (o : Option ℕ). MatchOption o ((m : ℕ) → ¬ HasCommits log m) (HasCommits log) in
    let same = commits_once log n count has (subst P is told) in
    omega (arith, same, low)

-- where none was found none is there
pub none_at : (log : List ℕ) (found : Option ℕ) (n : ℕ) → found ≡ None → MatchOption found ((m : ℕ) → ¬ HasCommits log m) (HasCommits log) → HasCommits log n → n ≡ 0
none_at log found n is told has =
    let P : Option ℕ → Type 0 = λ (o : Option ℕ). MatchOption o ((m : ℕ) → ¬ HasCommits log m) (HasCommits log) in
    absurd (subst P is told n has)

-- of tables that don't count 0 is read
pub reads_other : (d : Database) → d.schema ≢ schema_of Fourth → ReadsCount 0 d
reads_other d other = (
  λ m counts. elim counts [ inl has ↦ absurd (other has.0) | inr none ↦ sym none.0 ],
  λ by. inr (refl, λ m has. other has.0),
)

-- of others what the query of the count shows, and 0 where it shows none
pub reads_some : (s : State) (read : Option ℕ) (n : ℕ) → read ≡ Some n → s.now.schema ≡ schema_of Fourth → IsDatabase s.now → IsCountOf s read → ReadsCount n s.now
reads_some s read n is same sound count = (
  λ m counts. elim counts [ inl has ↦ same_Some n m (sym is ∙ count.all m has) | inr none ↦ absurd (none.1 same) ],
  λ by. inl (subst (λ (o : Option ℕ). IfSome o (HasCount s.now)) is (count.some (record { schema = same; sound = sound; shaped = by same }))),
)

pub reads_none : (s : State) (read : Option ℕ) → read ≡ None → s.now.schema ≡ schema_of Fourth → IsCountOf s read → ReadsCount 0 s.now
reads_none s read is same count = (
  λ m counts. elim counts [ inl has ↦ absurd (cc (sym is ∙ count.all m has)) | inr none ↦ sym none.0 ],
  λ by. inr (refl, λ m has. cc (sym is ∙ count.all m has)),
)

abbrev pub image_with : List ℕ → List ℕ → Image
image_with log db = record { log = log; db = db }

-- what is read of an image is read of the same image
pub read_same : (one other : Image) (found : Option ℕ) → one ≡ other → IsReadAs one found → IsReadAs other found
read_same one other found same read = subst (λ (i : Image). IsReadAs i found) same read

-- what all reads show, one that was made shows, and so it was read
pub shown_by_all : (image : Image) (P : Database → Type 0) (found : Option ℕ) → AllRead image P → IsReadAs image found → (n : ℕ) × (found ≡ Some n) × ((d : Database) × P d × ReadsCount n d)
shown_by_all image P None all read = absurd (read (inl all.0))
shown_by_all image P (Some n) all read = (n, refl, (read.0, all.1 read.0 read.1, read.2))

-- a count that all reads show is what was read
pub counted_by_all : (image : Image) (m : ℕ) (found : Option ℕ) → AllRead image (CountsTo m) → IsReadAs image found → found ≡ Some m
counted_by_all image m found all read =
    let it = shown_by_all image (CountsTo m) found all read in
    it.1 ∙ ap (λ (n : ℕ). Some n) (it.2.2.0 m it.2.1)

none_read : (image : Image) (found : Option ℕ) → NoneRead image → IsReadAs image found → found ≡ None
none_read image None none read = refl
none_read image (Some n) none read = absurd (none read.0 read.1)

module _ (image : Image) (n file : ℕ) (both : Option ℕ) (has : HasCommits image.log n) (read : IsReadAs (alone image) (Some file)) (whole : IsReadAs image both) where
  -- what all opens show of two times is told of these counts
  pub told_all : (it : Loss) → IsOtherTime image it → AreToldAs n file both it
  told_all (loss.OtherTime t) is =
      let same : n ≡ is.2.0 = commits_once image.log n is.2.0 has is.2.1 in (
        sym (same_Some file t.file (counted_by_all (alone image) t.file (Some file) is.0 read)),
        counted_by_all image t.last both is.1 whole,
        subst (λ (k : ℕ). AreApart k t) (sym same) is.2.2,
      )
  told_all loss.OtherFile is =
      let it = shown_by_all (alone image) HasCounted (Some file) is.0 read in
      let here : file ≡ it.0 = same_Some file it.0 it.1 in
      let counted : it.0 ≡ it.2.1.0 = it.2.2.0 it.2.1.0 (inl it.2.1.2) in
      (omega (arith, here, counted, it.2.1.1), none_read image both is.1 whole)
  told_all loss.NoLog is = absurd is
  told_all (loss.CutAt at) is = absurd is
  told_all loss.Damaged is = absurd is
  told_all loss.NoDatabase is = absurd is
  told_all loss.NoTables is = absurd is

  -- and what is told of them, one open of each showed
  pub shown_so : 0 < n → (it : Loss) → AreToldAs n file both it → ShowsOtherTime image it
  shown_so above (loss.OtherTime t) told =
      let first : IsReadAs (alone image) (Some t.file) = subst (λ (k : ℕ). IsReadAs (alone image) (Some k)) (sym told.0) read in
      let last : IsReadAs image (Some t.last) = subst (λ (o : Option ℕ). IsReadAs image o) told.1 whole in
      ((first.0, first.1, first.2.1), (last.0, last.1, last.2.1), (n, has, told.2))
  shown_so above loss.OtherFile told = (
    (read.0, read.1, λ by. elim (read.2.1 by) [ inl it ↦ (file, told.0, it) | inr none ↦ absurd (let some = told.0 in let zero = none.0 in omega arith) ]),
    subst (λ (o : Option ℕ). IsReadAs image o) told.1 whole,
    (n, has, above),
  )
  shown_so above loss.NoLog told = absurd told
  shown_so above (loss.CutAt at) told = absurd told
  shown_so above loss.Damaged told = absurd told
  shown_so above loss.NoDatabase told = absurd told
  shown_so above loss.NoTables told = absurd told

-- so of whatever is told
pub shown_if : (image : Image) (n file : ℕ) (both : Option ℕ) (r : Option Loss) → 0 < n → HasCommits image.log n → IsReadAs (alone image) (Some file) → IsReadAs image both → IfSome r (AreToldAs n file both)
    → IfSome r (ShowsOtherTime image)
shown_if image n file both None above has read whole told = tt
shown_if image n file both (Some it) above has read whole told = shown_so image n file both has read whole above it told

pub some_of : {T : Type 0} (P : T → Type 0) (o : Option T) (x : T) → o ≡ Some x → IfSome o P → P x
some_of {T} P o x is so = let R : Option T → Type 0 = λ (it : Option T). IfSome it P in subst R is so

-- of a log without commits nothing is told
pub none_without : (image : Image) (it : Loss) → ((n : ℕ) → HasCommits image.log n → n ≡ 0) → ¬ IsOtherTime image it
none_without image (loss.OtherTime t) none is = let zero = none is.2.0 is.2.1 in let some = is.2.2.0 in omega (arith, zero, some)
none_without image loss.OtherFile none is = let zero = none is.2.0 is.2.1 in let some = is.2.2 in omega (arith, zero, some)
none_without image loss.NoLog none is = is
none_without image (loss.CutAt at) none is = is
none_without image loss.Damaged none is = is
none_without image loss.NoDatabase none is = is
none_without image loss.NoTables none is = is

-- nor of a file that can't be read by itself
pub none_unread : (image : Image) (it : Loss) → IsReadAs (alone image) None → ¬ IsOtherTime image it
none_unread image (loss.OtherTime t) read is = read (inl is.0.0)
none_unread image loss.OtherFile read is = read (inl is.0.0)
none_unread image loss.NoLog read is = is
none_unread image (loss.CutAt at) read is = is
none_unread image loss.Damaged read is = is
none_unread image loss.NoDatabase read is = is
none_unread image loss.NoTables read is = is

-- later faults are faults
pub unknown_since : (image : Image) (old mid new : ℕ) (e : StartFault) → old ≤ mid → IsUnknown image mid new e → IsUnknown image old new e
unknown_since image old mid new (Unusable why) low (inl more) = inl (omega (arith, more, low))
unknown_since image old mid new (Unusable why) low (inr long) = inr long
unknown_since image old mid new OutOfMemory low is = tt
unknown_since image old mid new (Lost l) low is = is
unknown_since image old mid new NoFile low is = is
unknown_since image old mid new InUse low is = is
unknown_since image old mid new (Unopened fault) low is = is
unknown_since image old mid new NotFresh low is = is
unknown_since image old mid new (Unread fault) low is = is

-- where it isn't known what files count, that is why a loss isn't told
pub tells_unknown : (image : Image) (old new : ℕ) (it : Loss) (e : StartFault) → IsUnknown image old new e → TellsLoss it e
tells_unknown image old new it (Unusable why) is = inr (inr (why, refl))
tells_unknown image old new it OutOfMemory is = inr (inl refl)
tells_unknown image old new it (Lost l) is = absurd is
tells_unknown image old new it NoFile is = absurd is
tells_unknown image old new it InUse is = absurd is
tells_unknown image old new it (Unopened fault) is = absurd is
tells_unknown image old new it NotFresh is = absurd is
tells_unknown image old new it (Unread fault) is = absurd is

-- what is told of files that lost nothing which their bytes tell is why it isn't known
pub untied_unknown : (image : Image) (old new : ℕ) (it : Loss) (e : StartFault) → ((other : Loss) → ¬ IsLost image other) → IsDueFor (IsLost image) image old new e → TellsLoss it e
untied_unknown image old new it (Unusable why) none is = inr (inr (why, refl))
untied_unknown image old new it OutOfMemory none is = inr (inl refl)
untied_unknown image old new it (Lost l) none is = absurd (none l is)
untied_unknown image old new it NoFile none is = absurd is
untied_unknown image old new it InUse none is = absurd is
untied_unknown image old new it (Unopened fault) none is = absurd is
untied_unknown image old new it NotFresh none is = absurd is
untied_unknown image old new it (Unread fault) none is = absurd is

-- each such fault is due
pub due_if_unknown : (image : Image) (old mid new : ℕ) (e : StartFault) → old ≤ mid → IsUnknown image mid new e → IsDueBefore image old new e
due_if_unknown image old mid new (Unusable why) low (inl more) = inl (omega (arith, more, low))
due_if_unknown image old mid new (Unusable why) low (inr long) = inr long
due_if_unknown image old mid new OutOfMemory low is = tt
due_if_unknown image old mid new (Lost l) low is = absurd is
due_if_unknown image old mid new NoFile low is = is
due_if_unknown image old mid new InUse low is = is
due_if_unknown image old mid new (Unopened fault) low is = is
due_if_unknown image old mid new NotFresh low is = is
due_if_unknown image old mid new (Unread fault) low is = is

pub due_if_untied : (image : Image) (old new : ℕ) (e : StartFault) → IsDueFor (IsLost image) image old new e → IsDueBefore image old new e
due_if_untied image old new (Unusable why) is = is
due_if_untied image old new OutOfMemory is = tt
due_if_untied image old new (Lost l) is = inl is
due_if_untied image old new NoFile is = is
due_if_untied image old new InUse is = is
due_if_untied image old new (Unopened fault) is = is
due_if_untied image old new NotFresh is = is
due_if_untied image old new (Unread fault) is = is
