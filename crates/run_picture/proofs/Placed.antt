-- Where events are, one after another.
use Rattle.std.proofs.Common.{◌≡◌, ◌<◌, ◌≤◌, ◌+◌, ℕ, suc, List, [], ◌∷◌, ◌++◌, refl, sym, ap, subst, ◌∙◌, append_assoc}
use Rattle.std.proofs.Common.{length, take, drop, get_or, replicate, add-one, append-nil}
use Rattle.std.proofs.lemmas.List.{drop_all, get_or-take}
use Rattle.std.proofs.Math.Seq.{drop-cons}
use Rattle.watched_runs.specs.Rows.{Row}
use Rattle.run_picture.specs.Rows.{givers_from, row_at, row_behind, rows_from}

-- an event comes first of those that are left
pub row_first : (rows : List Row) (i : ℕ) (row : Row) → i < length rows → row ≡ get_or rows i row → drop i rows ≡ row ∷ drop (i + 1) rows
row_first rows i row below is = drop-cons rows i row below ∙ ap (λ (r : Row). r ∷ drop (suc i) rows) (sym is) ∙ ap (λ n. row ∷ drop n rows) (sym (add-one i))

-- an event is among the first ones
pub taken : (rows : List Row) (end i : ℕ) (row : Row) → i < end → row ≡ get_or rows i row → row ≡ get_or (take end rows) i row
taken rows end i row before is = is ∙ sym (get_or-take end rows i row before)

-- the row of one event more
pub row_more : (rows : List Row) (from i : ℕ) (row : Row) (y place behind : ℕ) (old new whole : List ℕ) → i < length rows → row ≡ get_or rows i row → new ≡ old ++ place ∷ []
    → place ≡ row_at from i y → behind ≡ row_behind from i y row.answer
    → old ++ rows_from from i y (drop i rows) ≡ whole → new ++ rows_from from (i + 1) behind (drop (i + 1) rows) ≡ whole
row_more rows from i row y place behind old new whole below is grown is_place is_behind before =
    let rest : List ℕ = rows_from from (i + 1) (row_behind from i y row.answer) (drop (i + 1) rows) in
    let next : old ++ (row_at from i y ∷ rest) ≡ whole = rw (row_first rows i row below is) at before in
    rw (grown, is_place, is_behind) (append_assoc old (row_at from i y ∷ []) rest ∙ next)

-- the rows of all
pub rows_all : (rows : List Row) (from i y : ℕ) (old whole : List ℕ) → length rows ≤ i → old ++ rows_from from i y (drop i rows) ≡ whole → old ≡ whole
rows_all rows from i y old whole past before =
    let last : old ++ [] ≡ whole = rw (drop_all i rows past) at before in
    sym (append-nil old) ∙ last

pub givers_all : (count : Row → ℕ) (rows : List Row) (from i y : ℕ) (old whole : List ℕ) → length rows ≤ i → old ++ givers_from count from i y (drop i rows) ≡ whole → old ≡ whole
givers_all count rows from i y old whole past before =
    let last : old ++ [] ≡ whole = rw (drop_all i rows past) at before in
    sym (append-nil old) ∙ last

-- the rows of what one event more gave
pub givers_more : (count : Row → ℕ) (rows : List Row) (from i : ℕ) (row : Row) (y place behind : ℕ) (old new whole : List ℕ) → i < length rows → row ≡ get_or rows i row
    → new ≡ old ++ replicate (count row) place → place ≡ row_at from i y → behind ≡ row_behind from i y row.answer
    → old ++ givers_from count from i y (drop i rows) ≡ whole → new ++ givers_from count from (i + 1) behind (drop (i + 1) rows) ≡ whole
givers_more count rows from i row y place behind old new whole below is grown is_place is_behind before =
    let rest : List ℕ = givers_from count from (i + 1) (row_behind from i y row.answer) (drop (i + 1) rows) in
    let next : old ++ (replicate (count row) (row_at from i y) ++ rest) ≡ whole = rw (row_first rows i row below is) at before in
    rw (grown, is_place, is_behind) (append_assoc old (replicate (count row) (row_at from i y)) rest ∙ next)
