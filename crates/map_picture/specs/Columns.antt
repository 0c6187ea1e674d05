-- Where the columns of a channel are: names, a gutter, and the axis.
use Rattle.std.specs.Prelude.{ℕ, ◌+◌, ◌-◌, ◌*◌, ◌≤◌, ◌==◌, if◌then◌else◌, max, List, [], ◌∷◌, length}
use Rattle.std.specs.List.{AllByRecursion}
use Rattle.plan_account.specs.declared.past.LeaseRow.{LeaseRow}
use Rattle.plan_account.specs.declared.past.RequestRow.{RequestRow}
use Rattle.map_picture.specs.declared.axis.Columns.{Columns}
use Rattle.map_picture.specs.declared.axis.Span.{Span}
use Rattle.map_picture.specs.Asked.{asked_words, before_words}
use Rattle.map_picture.specs.Owners.{owner_words}

-- the most characters that words of these have, or this many
abbrev pub longest_owner : ℕ → List LeaseRow → ℕ
longest_owner n [] = n
longest_owner n (l ∷ ls) = longest_owner (max n (length (owner_words l))) ls

abbrev pub longest_asked : ℕ → List RequestRow → ℕ
longest_asked n [] = n
longest_asked n (r ∷ rs) = longest_asked (max n (length (asked_words r))) rs

abbrev pub longest_before : Span → ℕ → List RequestRow → ℕ
longest_before span n [] = n
longest_before span n (r ∷ rs) = longest_before span (max n (length (before_words span r))) rs

-- a character takes 6 units at most: where names end, so that one of so many characters begins at 6
abbrev pub names_end : ℕ → ℕ
names_end n = max 98 (6 * n + 6)

-- what was sent before the axis begins is in a gutter, which has room for its longest words and a dot
abbrev pub gutter : ℕ → ℕ
gutter n = if n == 0 then 0 else 6 * n + 30

abbrev pub columns_by : (names before : ℕ) → Columns
columns_by names before = record { names = names_end names; left = names_end names + 6 + gutter before }

-- those of a channel with these leases and requests
abbrev pub columns_of : Span → List LeaseRow → List RequestRow → Columns
columns_of span ls rs = columns_by (longest_asked (longest_owner 0 ls) rs) (longest_before span 0 rs)

-- the name of each lease, which ends there, begins at 0 or right of it
abbrev pub OwnersFit : Type 0
OwnersFit = (span : Span) (ls : List LeaseRow) (rs : List RequestRow) → AllByRecursion (λ l. 6 * length (owner_words l) ≤ (columns_of span ls rs).names) ls
