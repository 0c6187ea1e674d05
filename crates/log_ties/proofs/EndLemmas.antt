-- The frame within which a log ends.
use Rattle.std.proofs.Common.{◌≡◌, ◌≢◌, ℕ, zero, suc, ◌+◌, ◌<◌, ◌≤◌, List, length, refl, ◌∙◌, subst, inl, inr, arith}
use Rattle.std.proofs.Common.{add-one}
use Rattle.std.proofs.lemmas.Bool.{cases_eq, cases_lt, cases_order}
use Rattle.sqlite_wal.specs.Format.{IsSigned, IsHeader, commit_size}
use Rattle.sqlite_wal.specs.Recovery.{frame_at, header, frame, IsValid, Replays}
use Rattle.sqlite_wal.proofs.PartLemmas.{frames_len-zero, frames_len-suc, frames_len-le}
use Rattle.log_ties.specs.Ties.{EndsWithin, HasOwnSaltsAt}
use Rattle.log_ties.specs.Tails.{PassesQuietly, Reaches}

module _ (size : ℕ) (log : List ℕ) where
  quiet_is_valid : (i : ℕ) → PassesQuietly size log i → IsValid size log i
  quiet_is_valid i quiet = record { within = quiet.0.within; passes = quiet.0.passes; counted = λ some below said seen is. absurd (some quiet.1) }

  taken_are_valid : (n : ℕ) → Replays size log n → (i : ℕ) → i < n → IsValid size log i
  taken_are_valid n (inl ignored) i low = absurd (omega (arith, ignored.1))
  taken_are_valid n (inr taken) i low = taken.0.valid i low

  -- the log has a valid frame whole
  behind_valid : (i : ℕ) → IsValid size log i → frame_at size (suc i) ≤ length log
  behind_valid i valid = omega (arith, frames_len-suc size i, valid.within)

  pub taken_within : (n : ℕ) → 32 ≤ length log → Replays size log n → frame_at size n ≤ length log
  taken_within zero long taken = omega (arith, frames_len-zero size)
  taken_within (suc m) long taken = behind_valid m (taken_are_valid (suc m) taken m (omega arith))

  earlier : (i j : ℕ) → frame_at size i ≤ length log → length log < frame_at size j → i < j
  earlier i j in_log past = elim (cases_lt i j) [ inl low ↦ low | inr high ↦ absurd (omega (arith, frames_len-le size j i high)) ]

  -- behind what recovery takes, no frame commits with all before it valid
  commits_no_more : (n j : ℕ) → IsSigned (header log) → Replays size log n → n ≤ j → ((i : ℕ) → i ≤ j → IsValid size log i) → commit_size (frame size log j) ≡ 0
  commits_no_more n j signed (inl ignored) past valid = elim ignored.0 [
    | inl short ↦ absurd (let here = (valid j (omega arith)).within in omega arith)
    | inr unsigned ↦ absurd (unsigned signed)
  ]
  commits_no_more n j signed (inr taken) past valid = taken.1.quiet j past valid

  -- the one frame within which it may end
  pub ends_once : (n j k : ℕ) → 32 ≤ length log → IsSigned (header log) → Replays size log n → Reaches size log n j → EndsWithin size log k → k ≡ j
  ends_once n j k long signed taken reached ends =
      let past : n < suc k = earlier n (suc k) (taken_within n long taken) ends.ends in
      elim (cases_order k j) [
        | inl same ↦ same
        | inr (inl low) ↦ absurd (let there = behind_valid k (quiet_is_valid k (reached.quiet k (omega arith) low)) in let past_end = ends.ends in omega arith)
        | inr (inr high) ↦
            let valid = ends.valid j high in
            let none = commits_no_more n j signed taken reached.from (λ i low. ends.valid i (omega arith)) in
            absurd (reached.stops (record { within = valid.within; passes = valid.passes }, none))
      ]

  pub cut_behind_frames : (n j : ℕ) → Replays size log n → Reaches size log n j → n < j → length log < frame_at size (suc j) → EndsWithin size log j
  cut_behind_frames n zero taken reached more past = absurd (omega arith)
  cut_behind_frames n (suc m) taken reached more past =
      record {
        valid = λ i low. elim (cases_lt i n) [ inl below ↦ taken_are_valid n taken i below | inr above ↦ quiet_is_valid i (reached.quiet i above low) ];
        ends = past;
        broken = inl (m, refl, (reached.quiet m (omega arith) (omega arith)).1);
      }

  pub cut_by_salts : (n : ℕ) → Replays size log n → length log < frame_at size (suc n) → HasOwnSaltsAt log (frame_at size n) → EndsWithin size log n
  cut_by_salts n taken past own = record { valid = taken_are_valid n taken; ends = past; broken = inr own }

  commits_at : (n m : ℕ) → Replays size log n → suc m ≡ n → commit_size (frame size log m) ≢ 0
  commits_at n m (inl ignored) last none = absurd (omega (arith, ignored.1))
  commits_at n m (inr taken) last none = taken.0.commits m (add-one m ∙ last) none

  pub uncut_behind_commit : (n k : ℕ) → 32 ≤ length log → IsSigned (header log) → Replays size log n → Reaches size log n n → ¬ HasOwnSaltsAt log (frame_at size n) → ¬ EndsWithin size log k
  uncut_behind_commit n k long signed taken reached other ends =
      let same = ends_once n n k long signed taken reached ends in
      elim ends.broken [
        | inl quiet ↦ commits_at n quiet.0 taken (quiet.1 ∙ same) quiet.2
        | inr own ↦ other (subst (λ (i : ℕ). HasOwnSaltsAt log (frame_at size i)) same own)
      ]

  pub uncut_behind_frame : (n j k : ℕ) → 32 ≤ length log → IsSigned (header log) → Replays size log n → Reaches size log n j → frame_at size (suc j) ≤ length log → ¬ EndsWithin size log k
  uncut_behind_frame n j k long signed taken reached whole ends =
      let same = ends_once n j k long signed taken reached ends in
      let past : length log < frame_at size (suc j) = subst (λ (i : ℕ). length log < frame_at size (suc i)) same ends.ends in
      omega arith

  -- so many of these frames end with a commit, and behind them none commits
  last_commit : (k : ℕ) → (n : ℕ) × (n ≤ k) × ((i : ℕ) → i + 1 ≡ n → commit_size (frame size log i) ≢ 0) × ((i : ℕ) → n ≤ i → i < k → commit_size (frame size log i) ≡ 0)
  last_commit zero = (0, omega arith, λ i last. absurd (omega arith), λ i past low. absurd (omega arith))
  last_commit (suc m) =
      let before = last_commit m in
      elim (cases_eq (commit_size (frame size log m)) 0) [
        | inl none ↦ (
          before.0,
          omega (arith, before.1),
          before.2,
          λ i past low. elim (cases_eq i m) [ inl same ↦ rw same none | inr other ↦ before.3 i past (omega arith) ],
        )
        | inr some ↦ (
          suc m,
          omega arith,
          λ i last. let same : i ≡ m = omega arith in rw same some,
          λ i past low. absurd (omega arith),
        )
      ]

  goes_on : (k : ℕ) → EndsWithin size log k → 32 < length log
  goes_on k ends = elim ends.broken [
    | inl quiet ↦ let whole = behind_valid quiet.0 (ends.valid quiet.0 (omega (arith, quiet.1))) in omega (arith, frames_len-suc size quiet.0)
    | inr own ↦ omega (arith, own.0)
  ]

  -- of a log that ends so recovery takes some number of frames
  pub taken_of_cut : (k : ℕ) → IsHeader size (header log) → EndsWithin size log k → (n : ℕ) × Replays size log n
  taken_of_cut k head ends =
      let last = last_commit k in
      let none_past : (j : ℕ) → k ≤ j → frame_at size (suc j) ≤ length log → ⊥ = λ j past whole. (let past_end = ends.ends in omega (arith, frames_len-le size (suc k) (suc j) (omega arith))) in (
        last.0,
        inr (
          record { long = goes_on k ends; head = head; valid = λ i low. ends.valid i (omega (arith, last.1)); commits = last.2 },
          record {
            quiet = λ j past valid. elim (cases_lt j k) [ inl low ↦ last.3 j past low | inr high ↦ absurd (none_past j high (behind_valid j (valid j (omega arith)))) ];
            alone = λ j past valid here behind. elim (cases_lt j k) [ inl low ↦ ends.valid j low | inr high ↦ absurd (none_past j high (omega (arith, frames_len-suc size j, here.within))) ];
          },
        ),
      )
