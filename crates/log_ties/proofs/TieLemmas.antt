-- What is told of a log by the frames that recovery takes.
use Rattle.std.proofs.Common.{Result, Ok, Err, ◌≡◌, ◌≢◌, ◌⊎◌, ℕ, ◌≤◌, List, length, slice_index, sym, refl, ◌∙◌, subst}
use Rattle.std.proofs.Common.{inl, inr, arith}
use Rattle.sqlite_wal.specs.Format.{be32, IsSigned, IsHeader}
use Rattle.sqlite_wal.specs.Outcome.{FailsFor, Never, OnlyIf}
use Rattle.sqlite_wal.specs.declared.error.Error.TheVariants.{Full, Corrupt}
use Rattle.sqlite_wal.specs.PageSize.{IsPageSize}
use Rattle.sqlite_wal.specs.Recovery.{Image, header, IsBegun, Replays}
use Rattle.sqlite_wal.specs.declared.error.Error.{Error}
use Rattle.sqlite_wal.proofs.OutcomeLemmas.{HasCause-weaker}
use Rattle.sqlite_wal.proofs.PartLemmas.{slice_index-part}
use Rattle.sqlite_wal.proofs.RecoveryLemmas.{replays_once}
use Rattle.log_ties.specs.declared.tie.Loss.{Loss}
use Rattle.log_ties.specs.declared.tie.Loss.TheVariants.{NoLog, CutAt, Damaged, NoDatabase}
use Rattle.log_ties.specs.declared.tie.Loss.TheVariants.{OtherTime, OtherFile, NoTables}
use Rattle.log_ties.specs.declared.tie.Tie.{Tie}
use Rattle.log_ties.specs.declared.tie.Tie.TheVariants.{New, Begun, Tied, Lost}
use Rattle.log_ties.specs.Ties.{EndsWithin, FailsOnlyFor, IsCut, IsLost, IsOfMaking, IsThere, IsToldOf, size_of}
use Rattle.log_ties.specs.Tails.{IsFoundIn, NoneReplay, image_of}
use Rattle.log_ties.proofs.EndLemmas.{taken_of_cut}

module _ (log head : List ℕ) (size n k : ℕ) (f : IsFoundIn log head size n k) where
  pub making_of : be32 (header log) 12 ≡ 0xffff_ffff → k ≡ 0 → IsOfMaking log
  making_of counts none =
      let P : ℕ → Type 0 = λ (s : ℕ). IsPageSize s × IsBegun s log × Replays s log 0 in
      subst P f.named (f.sized, (f.shape.long, f.shape.reads, counts), subst (λ (i : ℕ). Replays size log i) none f.taken)

  pub none_of : IsOfMaking log → k ≡ 0
  none_of making = replays_once (size_of log) log k 0 (subst (λ (s : ℕ). Replays s log k) f.named f.taken) making.2

  pub cut_of : (i : ℕ) × EndsWithin size log i → IsCut log
  cut_of ends = inr (
    (f.shape.long, subst (λ (s : ℕ). IsPageSize s) f.named f.sized, subst (λ (s : ℕ). IsHeader s (header log)) f.named f.shape.reads),
    (ends.0, subst (λ (s : ℕ). EndsWithin s log ends.0) f.named ends.1),
  )

  pub ends_of : IsCut log → (i : ℕ) × EndsWithin size log i
  ends_of (inl short) = absurd (let long = f.shape.long in omega (arith, short.1))
  ends_of (inr cut) = (cut.1.0, subst (λ (s : ℕ). EndsWithin s log cut.1.0) (sym f.named) cut.1.1)

module _ (log : List ℕ) (none : NoneReplay log) where
  pub no_making : ¬ IsOfMaking log
  no_making making = none (making.1.0, making.0, making.1.1) 0 making.2

  pub no_cut : 32 ≤ length log → ¬ IsCut log
  no_cut long (inl short) = omega (arith, short.1)
  no_cut long (inr cut) = let taken = taken_of_cut (size_of log) log cut.1.0 cut.0.2 cut.1.1 in none cut.0 taken.0 taken.1

-- a log that isn't signed is cut only within its header
pub unsigned_uncut : (log : List ℕ) → 32 ≤ length log → ¬ IsSigned (header log) → ¬ IsCut log
unsigned_uncut log long unsigned (inl short) = omega (arith, short.1)
unsigned_uncut log long unsigned (inr cut) = unsigned cut.0.2.signed

-- what was lost tells itself
pub lost_is : (image : Image) (tie : Tie) (loss : Loss) → IsToldOf image tie → IsLost image loss → tie ≡ Lost loss
lost_is image New NoLog told lost = absurd (told.0 lost.0)
lost_is image New (CutAt n) told lost = absurd (told.0 lost.0)
lost_is image New Damaged told lost = absurd (told.0 lost.0)
lost_is image New NoDatabase told lost = absurd (elim told.1 [ inl none ↦ none lost.1 | inr making ↦ lost.2 making ])
lost_is image Begun NoLog told lost = absurd (let long = told.0.long in omega (arith, lost.1))
lost_is image Begun (CutAt n) told lost = absurd (told.0.uncut lost.1)
lost_is image Begun Damaged told lost = absurd (lost.1.1 told.1.0)
lost_is image Begun NoDatabase told lost = absurd (lost.0 told.0.there)
lost_is image Tied NoLog told lost = absurd (let long = told.0.long in omega (arith, lost.1))
lost_is image Tied (CutAt n) told lost = absurd (told.0.uncut lost.1)
lost_is image Tied Damaged told lost = absurd (elim told.0.begins [ inl signed ↦ lost.1.1 signed | inr zero ↦ lost.1.2 zero ])
lost_is image Tied NoDatabase told lost = absurd (lost.0 told.0.there)
lost_is image (Lost NoLog) NoLog told lost = refl
lost_is image (Lost NoLog) (CutAt n) told lost = absurd (elim lost.1 [ inl short ↦ (let none = told.1 in omega (arith, short.0)) | inr cut ↦ (let none = told.1 in omega (arith, cut.0.0)) ])
lost_is image (Lost NoLog) Damaged told lost = absurd (let none = told.1 in omega (arith, lost.1.0))
lost_is image (Lost NoLog) NoDatabase told lost = absurd (lost.0 told.0)
lost_is image (Lost (CutAt n)) NoLog told lost = absurd (elim told.1 [ inl short ↦ (let none = lost.1 in omega (arith, short.0)) | inr cut ↦ (let none = lost.1 in omega (arith, cut.0.0)) ])
lost_is image (Lost (CutAt n)) (CutAt m) told lost = let same : n ≡ m = told.2 ∙ sym lost.2 in rw same refl
lost_is image (Lost (CutAt n)) Damaged told lost = absurd (unsigned_uncut image.log lost.1.0 lost.1.1 told.1)
lost_is image (Lost (CutAt n)) NoDatabase told lost = absurd (lost.0 told.0)
lost_is image (Lost Damaged) NoLog told lost = absurd (let none = lost.1 in omega (arith, told.1.0))
lost_is image (Lost Damaged) (CutAt n) told lost = absurd (unsigned_uncut image.log told.1.0 told.1.1 lost.1)
lost_is image (Lost Damaged) Damaged told lost = refl
lost_is image (Lost Damaged) NoDatabase told lost = absurd (lost.0 told.0)
lost_is image (Lost NoDatabase) NoLog told lost = absurd (told.0 lost.0)
lost_is image (Lost NoDatabase) (CutAt n) told lost = absurd (told.0 lost.0)
lost_is image (Lost NoDatabase) Damaged told lost = absurd (told.0 lost.0)
lost_is image (Lost NoDatabase) NoDatabase told lost = refl
lost_is image New (OtherTime t) told lost = absurd lost
lost_is image New OtherFile told lost = absurd lost
lost_is image Begun (OtherTime t) told lost = absurd lost
lost_is image Begun OtherFile told lost = absurd lost
lost_is image Tied (OtherTime t) told lost = absurd lost
lost_is image Tied OtherFile told lost = absurd lost
lost_is image (Lost NoLog) (OtherTime t) told lost = absurd lost
lost_is image (Lost NoLog) OtherFile told lost = absurd lost
lost_is image (Lost (CutAt n)) (OtherTime t) told lost = absurd lost
lost_is image (Lost (CutAt n)) OtherFile told lost = absurd lost
lost_is image (Lost Damaged) (OtherTime t) told lost = absurd lost
lost_is image (Lost Damaged) OtherFile told lost = absurd lost
lost_is image (Lost NoDatabase) (OtherTime t) told lost = absurd lost
lost_is image (Lost NoDatabase) OtherFile told lost = absurd lost
lost_is image New NoTables told lost = absurd lost
lost_is image Begun NoTables told lost = absurd lost
lost_is image Tied NoTables told lost = absurd lost
lost_is image (Lost NoLog) NoTables told lost = absurd lost
lost_is image (Lost (CutAt n)) NoTables told lost = absurd lost
lost_is image (Lost Damaged) NoTables told lost = absurd lost
lost_is image (Lost NoDatabase) NoTables told lost = absurd lost
lost_is image (Lost (OtherTime t)) loss told lost = absurd told
lost_is image (Lost OtherFile) loss told lost = absurd told
lost_is image (Lost NoTables) loss told lost = absurd told

module _ (log db head : List ℕ) (there : IsThere db) (long : 32 ≤ length log) (same : head ≡ header log) (unsigned : ¬ IsSigned head) where
  unsigned_log : ¬ IsSigned (header log)
  unsigned_log signed = unsigned (subst (λ (h : List ℕ). IsSigned h) (sym same) signed)

  first_byte : slice_index head 0 ≡ slice_index log 0
  first_byte = subst (λ (h : List ℕ). slice_index h 0 ≡ slice_index log 0) (sym same) (slice_index-part log 0 32 0 (omega arith))

  pub whole_if_written : slice_index head 0 ≡ 0 → IsToldOf (image_of log db) Tied
  whole_if_written zero = (
    record { there = there; long = long; begins = inr (sym first_byte ∙ zero); uncut = unsigned_uncut log long unsigned_log },
    λ uncopied. unsigned_log uncopied.0,
  )

  pub damaged_else : slice_index head 0 ≢ 0 → IsToldOf (image_of log db) (Lost Damaged)
  damaged_else some = (there, (long, unsigned_log, λ zero. some (first_byte ∙ zero)))

-- a call that goes on from this count of faults fails only for what it may
pub fails_after : {T : Type 0} (r : Result T Error) (Clean : Type 0) (old mid new : ℕ) (Refuses : Error → Type 0) → old ≤ mid → FailsFor r Clean mid new Never → FailsOnlyFor r Clean old new Refuses
fails_after (Ok x) Clean old mid new Refuses low same = let is : new ≡ mid = same in omega arith
fails_after (Err e) Clean old mid new Refuses low why =
    (λ clean. HasCause-weaker mid new old new Never Refuses e (λ more. omega arith) (λ never. absurd never) (why.0 clean), let more = why.1 in omega arith)

-- a call that was refused so was refused for this
pub corrupt_for : {T : Type 0} (r : Result T Error) (Clean : Type 0) (old new : ℕ) (P Q : Type 0) → r ≡ Err Corrupt → FailsFor r Clean old new (λ e. OnlyIf Corrupt P e ⊎ OnlyIf Full Q e) → Clean → P
corrupt_for {T} r Clean old new P Q is why clean =
    let R : Result T Error → Type 0 = λ (x : Result T Error). FailsFor x Clean old new (λ e. OnlyIf Corrupt P e ⊎ OnlyIf Full Q e) in
    elim ((subst R is why).0 clean) [ inl corrupt ↦ corrupt.1 | inr full ↦ absurd (cc (full.0)) ]
