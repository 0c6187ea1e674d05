-- Where events are: a row each, from the top down.
use Rattle.std.specs.Prelude.{ℕ, ◌+◌, nat_lt, if◌then◌else◌, List, [], ◌∷◌, ◌++◌, None, length, replicate}
use Rattle.std.specs.Prelude.{take}
use Rattle.seats.specs.declared.answer.Answer.{Answer}
use Rattle.seats.specs.declared.answer.Answer.TheVariants.{Ticked}
use Rattle.watched_runs.specs.Rows.{Row}

-- how high the row of an event with this answer is: less where a modem had nothing to send
abbrev pub row_height : Answer → ℕ
row_height (Ticked None) = 14
row_height other = 24

-- where the first row is, and the upper edge: events that are before those that are drawn are there
abbrev pub first_row : ℕ
first_row = 146

abbrev pub upper_edge : ℕ
upper_edge = 132

-- where event i is, and the row behind it, where events are drawn from a number on, and the next row is at y
abbrev pub row_at : (from i y : ℕ) → ℕ
row_at from i y = if nat_lt i from then upper_edge else y

abbrev pub row_behind : (from i y : ℕ) → Answer → ℕ
row_behind from i y answer = if nat_lt i from then y else y + row_height answer

-- where the rows of events are, from event i on
abbrev pub rows_from : (from i y : ℕ) → List Row → List ℕ
rows_from from i y [] = []
rows_from from i y (row ∷ rows) = row_at from i y ∷ rows_from from (i + 1) (row_behind from i y row.answer) rows

-- of a run whose events are drawn from a number on, and before another one
abbrev pub rows_within : ℕ × ℕ → List Row → List ℕ
rows_within (from, end) rows = rows_from from 0 first_row (take end rows)

-- how many letters an event sent, and how many outputs it released
abbrev pub sent_count : Row → ℕ
sent_count row = length row.sent.1

abbrev pub released_count : Row → ℕ
released_count row = length row.released

-- for each letter, or output, the row of the event that gave it
abbrev pub givers_from : (Row → ℕ) → (from i y : ℕ) → List Row → List ℕ
givers_from count from i y [] = []
givers_from count from i y (row ∷ rows) =
    replicate (count row) (row_at from i y) ++ givers_from count from (i + 1) (row_behind from i y row.answer) rows

abbrev pub givers_within : (Row → ℕ) → ℕ × ℕ → List Row → List ℕ
givers_within count (from, end) rows = givers_from count from 0 first_row (take end rows)
