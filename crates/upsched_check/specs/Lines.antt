-- The line and the column of a place in a text. A column counts characters.
use Rattle.std.specs.Prelude.{ℕ, ◌+◌, ◌==◌, ◌||◌, nat_lt, nat_le, if◌then◌else◌, List, fold, take}

-- the line and the column behind one byte more
abbrev pub behind : ℕ × ℕ → ℕ → ℕ × ℕ
behind place byte =
    if byte == 10 then (place.0 + 1, 1) else
    if nat_lt byte 128 || nat_le 192 byte then (place.0, place.1 + 1) else place

-- behind the first bytes of a text, both from 1
abbrev pub place_of : List ℕ → ℕ → ℕ × ℕ
place_of text start = fold behind (1, 1) (take start text)

abbrev pub line_of : List ℕ → ℕ → ℕ
line_of text start = (place_of text start).0

abbrev pub column_of : List ℕ → ℕ → ℕ
column_of text start = (place_of text start).1
