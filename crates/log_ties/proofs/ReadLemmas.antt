-- What the bytes that were read are in the log.
use Rattle.std.proofs.Common.{◌≡◌, ◌≢◌, ℕ, zero, suc, ap, subst₂, ◌+◌, ◌-◌, ◌*◌, ◌<◌, ◌≤◌, List, length, slice_index}
use Rattle.std.proofs.Common.{sym, refl, ◌∙◌, ap₂, subst, arith, Option, Some, None, MatchOption}
use Rattle.sqlite_disk.specs.Disk.{Holds}
use Rattle.sqlite_wal.specs.Format.{part, be32, stored_sum, IsFrame, commit_size}
use Rattle.sqlite_wal.specs.Recovery.{frame_at, frames_len, header, frame, sum_before}
use Rattle.sqlite_wal.proofs.FormatLemmas.{be32-part, pair}
use Rattle.sqlite_wal.proofs.PartLemmas.{frames_len-suc}
use Rattle.log_ties.specs.Ties.{HasOwnSaltsAt}
use Rattle.log_ties.specs.Tails.{IsQuiet, PassesQuietly}

-- a frame ends past its header
pub past_frame : (size n at : ℕ) → n ≢ 0 → at ≡ frame_at size n → 56 + size ≤ at
past_frame size zero at some place = absurd (some refl)
past_frame size (suc i) at some place = omega (arith, place, frames_len-suc size i)

-- eight bytes behind the first 16 of a frame are its checksum
pub sum_at : (size : ℕ) (log : List ℕ) (i at : ℕ) → at ≡ frame_at size i + 16 → stored_sum (part log at 8) 0 ≡ stored_sum (frame size log i) 16
sum_at size log i at place =
    let first : be32 (part log at 8) 0 ≡ be32 (frame size log i) 16 =
    let here : at + 0 ≡ frame_at size i + 16 = omega arith in
    be32-part log at 8 0 (omega arith) ∙ rw here (sym (be32-part log (frame_at size i) (24 + size) 16 (omega arith))) in
    let second : be32 (part log at 8) 4 ≡ be32 (frame size log i) 20 =
    let here : at + 4 ≡ frame_at size i + 20 = omega arith in
    be32-part log at 8 4 (omega arith) ∙ rw here (sym (be32-part log (frame_at size i) (24 + size) 20 (omega arith))) in
    ap₂ pair first second

-- so is the checksum before the frame behind it
pub sum_is : (size : ℕ) (log : List ℕ) (n at : ℕ) → n ≢ 0 → at ≡ frame_at size n → stored_sum (part log (at - size - 24 + 16) 8) 0 ≡ sum_before size log n
sum_is size log zero at some place = absurd (some refl)
sum_is size log (suc i) at some place = sum_at size log i (at - size - 24 + 16) (omega (arith, place, frames_len-suc size i))

module _ (log head found : List ℕ) (at : ℕ) (holds : Holds log (at + 8) found) (same : head ≡ header log) where
  pub own_salts : ((i : ℕ) → i < 8 → at + 8 + i < length log → i < length found) → ((i : ℕ) → i < length found → slice_index found i ≡ slice_index head (16 + i)) → HasOwnSaltsAt log at
  own_salts all equal = (let in_log = holds.within in omega arith, λ i low in_log. holds.each i (all i low in_log) ∙ equal i (all i low in_log) ∙ subst (λ (h : List ℕ). slice_index head (16 + i) ≡ slice_index h (16 + i)) same refl)

  pub salts_own : length found ≤ 8 → HasOwnSaltsAt log at → (i : ℕ) → i < length found → slice_index found i ≡ slice_index head (16 + i)
  salts_own few own i low = sym (holds.each i low) ∙ own.1 i (omega arith) (let in_log = holds.within in omega arith) ∙ subst (λ (h : List ℕ). slice_index h (16 + i) ≡ slice_index head (16 + i)) same refl

pub at_none : {T : Type 0} (P : Type 0) (Q : T → Type 0) (r : Option T) → r ≡ None → MatchOption r P Q → P
at_none {T} P Q r is m = let R : Option T → Type 0 = λ (o : Option T). MatchOption o P Q in subst R is m

pub at_some : {T : Type 0} (P : Type 0) (Q : T → Type 0) (r : Option T) (x : T) → r ≡ Some x → MatchOption r P Q → Q x
at_some {T} P Q r x is m = let R : Option T → Type 0 = λ (o : Option T). MatchOption o P Q in subst R is m

-- so many frames of this length end there
pub offset_is : (size n len : ℕ) → len ≡ 24 + size → 32 + n * len ≡ frame_at size n
unfolding frames_len
offset_is size n len is = ap (λ (k : ℕ). 32 + n * k) is

-- an offset that is a frame's is no less than its number
pub few_frames : (size n at : ℕ) → at ≡ frame_at size n → n + 32 ≤ at
unfolding frames_len
few_frames size n at is = omega arith

-- the frame at its offset
frame_there : (size : ℕ) (log : List ℕ) (at len i : ℕ) → at ≡ frame_at size i → len ≡ 24 + size → part log at len ≡ frame size log i
frame_there size log at len i place whole = ap₂ (λ (a n : ℕ). part log a n) place whole

module _ (size : ℕ) (log head : List ℕ) (before : ℕ × ℕ) (at len i : ℕ) (same : head ≡ header log) (behind : before ≡ sum_before size log i) (place : at ≡ frame_at size i) (whole : len ≡ 24 + size) where
  pub quiet_there : at + len ≤ length log → IsQuiet head before (part log at len) → PassesQuietly size log i
  quiet_there within quiet =
      let there = frame_there size log at len i place whole in
      let P : List ℕ → ℕ × ℕ → List ℕ → Type 0 = λ (h : List ℕ) (s : ℕ × ℕ) (f : List ℕ). IsFrame h s f in
      (record { within = omega arith; passes = subst (P (header log) (sum_before size log i)) there (subst₂ (λ (h : List ℕ) (s : ℕ × ℕ). P h s (part log at len)) same behind quiet.0) }, sym (ap commit_size there) ∙ quiet.1)

  pub loud_there : ¬ IsQuiet head before (part log at len) → ¬ PassesQuietly size log i
  loud_there loud quiet =
      let there = frame_there size log at len i place whole in
      let P : List ℕ → ℕ × ℕ → List ℕ → Type 0 = λ (h : List ℕ) (s : ℕ × ℕ) (f : List ℕ). IsFrame h s f in
      loud (subst₂ (λ (h : List ℕ) (s : ℕ × ℕ). P h s (part log at len)) (sym same) (sym behind) (subst (P (header log) (sum_before size log i)) (sym there) quiet.0.passes), ap commit_size there ∙ quiet.1)

  pub sum_there : (sum : ℕ × ℕ) → sum ≡ stored_sum (part log at len) 16 → sum ≡ sum_before size log (suc i)
  sum_there sum is = is ∙ ap (λ (f : List ℕ). stored_sum f 16) (frame_there size log at len i place whole)

-- behind the end no frame passes
pub ended_there : (size : ℕ) (log : List ℕ) (at len i : ℕ) → at ≡ frame_at size i → len ≡ 24 + size → length log - at < len → ¬ PassesQuietly size log i
ended_there size log at len i place whole short quiet = let within = quiet.0.within in omega arith
