-- How many frames of a log commit, and whether one does.
use Rattle.std.proofs.Common.{◌≡◌, ◌≢◌, ℕ, suc, ◌+◌, ◌*◌, ◌<◌, ◌≤◌, List, refl, sym, ◌∙◌, ap, subst, arith}
use Rattle.std.proofs.Common.{mul-le-mul_right, eq-eqb, true, false, ◌==◌, ◌↔◌, IsTrue, nat_lt, ltb-true, lt-ltb}
use Rattle.std.proofs.lemmas.Bool.{ne_eqb}
use Rattle.sqlite_wal.specs.Format.{be32, commit_size, IsHeader}
use Rattle.sqlite_wal.specs.PageSize.{IsPageSize}
use Rattle.sqlite_wal.specs.Recovery.{frame_at, frames_len, header, frame, Replays}
use Rattle.sqlite_wal.proofs.FormatLemmas.{be32-part}
use Rattle.sqlite_wal.proofs.RecoveryLemmas.{replays_once}
use Rattle.log_ties.specs.Ties.{commits_to, HasCommit, HasCommits, size_of}
use Rattle.log_ties.specs.Tails.{IsFoundIn, NoneReplay}

-- frame i begins there, and is one of the first n
pub frame_within : (size n i step : ℕ) → step ≡ 24 + size → i < n → 32 + i * step + (24 + size) ≤ frame_at size n
unfolding frames_len
frame_within size n i step is low =
    let more : suc i * step ≤ n * step = mul-le-mul_right step low in
    rw (sym is) (omega arith)

module _ (size : ℕ) (log : List ℕ) (i step : ℕ) (is : step ≡ 24 + size) where
  -- what is read there is what the frame commits
  pub commit_there : be32 log (32 + i * step + 4) ≡ commit_size (frame size log i)
  unfolding frames_len
  commit_there =
      let here : 32 + i * step + 4 ≡ frame_at size i + 4 = rw is refl in
      ap (λ (at : ℕ). be32 log at) here ∙ sym (be32-part log (frame_at size i) (24 + size) 4 (omega arith))

  pub counts_one : (count : ℕ) → count ≡ commits_to size log i → be32 log (32 + i * step + 4) ≢ 0 → count + 1 ≡ commits_to size log (suc i)
  counts_one count was some =
      let not : (commit_size (frame size log i) == 0) ≡ false = ne_eqb _ _ (λ none. some (commit_there ∙ none)) in
      rw not (ap (λ (n : ℕ). n + 1) was)

  pub counts_none : (count : ℕ) → count ≡ commits_to size log i → be32 log (32 + i * step + 4) ≡ 0 → count ≡ commits_to size log (suc i)
  counts_none count was none =
      let is_none : (commit_size (frame size log i) == 0) ≡ true = eq-eqb _ _ (sym commit_there ∙ none) in
      rw is_none (was ∙ omega arith)

-- recovery takes frames of this shape, so many of which commit
pub has_commits : (log head : List ℕ) (size n k count : ℕ) → IsFoundIn log head size n k → count ≡ commits_to size log k → HasCommits log count
has_commits log head size n k count f is = (
  (f.shape.long, subst (λ (s : ℕ). IsPageSize s) f.named f.sized, subst (λ (s : ℕ). IsHeader s (header log)) f.named f.shape.reads),
  (k, subst (λ (s : ℕ). Replays s log k) f.named f.taken, subst (λ (s : ℕ). count ≡ commits_to s log k) f.named is),
)

pub has_none : (log : List ℕ) → NoneReplay log → (n : ℕ) → ¬ HasCommits log n
has_none log none n has = none has.0 has.1.0 has.1.1

-- a log has one number of commits
pub commits_once : (log : List ℕ) (n m : ℕ) → HasCommits log n → HasCommits log m → n ≡ m
commits_once log n m one other =
    let same = replays_once (size_of log) log one.1.0 other.1.0 one.1.1 other.1.1 in
    one.1.2 ∙ ap (λ (k : ℕ). commits_to (size_of log) log k) same ∙ sym other.1.2

-- so it has one exactly where that isn't 0
pub some_commits : (log : List ℕ) (n : ℕ) → HasCommits log n → (IsTrue (nat_lt 0 n) ↔ HasCommit log)
some_commits log n has = (
  λ yes. (n, ltb-true 0 n yes, has),
  λ found. lt-ltb 0 n (let same = commits_once log n found.0 has found.2 in let some = found.1 in omega (arith, same, some)),
)
