-- The first event that delivers a letter, found from the last event on.
use Rattle.std.proofs.Common.{◌≡◌, ◌<◌, ◌+◌, ℕ, if◌then◌else◌, List, Option, sym, ap, ◌∙◌, length, drop, get_or, arith}
use Rattle.watched_runs.specs.Rows.{Row}
use Rattle.run_picture.specs.Arrows.{delivered, first_from, is_this}
use Rattle.run_picture.proofs.Placed.{row_first}

-- one event more, before those that were passed: it is the first where it delivers the letter
pub first_noted : (k i m n : ℕ) (rows : List Row) (row : Row) (brought : Option ℕ) (old new : ℕ) → i < length rows → row ≡ get_or rows i row → brought ≡ delivered row.event row.answer → m ≡ i + 1 → n ≡ i
    → old ≡ first_from k m (drop m rows) → new ≡ (if is_this k brought then i else old) → new ≡ first_from k n (drop n rows)
first_noted k i m n rows row brought old new within is is_brought above same is_old is_new =
    let before : old ≡ first_from k (i + 1) (drop (i + 1) rows) = rw above at is_old in
    rw (same, row_first rows i row within is)
    (is_new ∙ ap (λ b. if is_this k b then i else old) is_brought ∙ ap (λ x. if is_this k (delivered row.event row.answer) then i else x) before)
