-- Bars of 60 columns: what of a MAP's minislots is whose.
use Rattle.std.specs.Prelude.{ℕ, zero, suc, ◌+◌, ◌*◌, ◌/◌, ◌%◌, ◌==◌, Bool, ◌&&◌, nat_lt, if◌then◌else◌, List, [], ◌∷◌}
use Rattle.std.specs.Prelude.{◌++◌}
use Rattle.map_body.specs.declared.interval.Interval.{Interval}
use Rattle.map_body.specs.Iucs.{initial_maintenance, request, station_maintenance}
use Rattle.map_body.specs.Sids.{everybody}
use Rattle.plan_account.specs.Cover.{holds}

-- columns 0 to n - 1, each by its number
abbrev pub columns : (ℕ → ℕ) → ℕ → List ℕ
columns mark zero = []
columns mark (suc n) = columns mark n ++ mark n ∷ []

abbrev pub bar_columns : ℕ
bar_columns = 60

-- a column stands for len / 60 minislots, and shares one with those of from to to - 1
abbrev pub shares : (from to len column : ℕ) → Bool
shares from to len column = nat_lt from to && nat_lt (from * bar_columns) ((column + 1) * len) && nat_lt (column * len) (to * bar_columns)

-- the bar of an interval: its mark where a column shares a minislot with it, a dot elsewhere
abbrev pub bar_mark : (from to len mark column : ℕ) → ℕ
bar_mark from to len mark column = if shares from to len column then mark else 46

unfoldable pub bar : (from to len mark : ℕ) → List ℕ
bar from to len mark = columns (bar_mark from to len mark) bar_columns

-- what is everybody's: an opening for first ranging, or else free
abbrev pub open_mark : ℕ → ℕ
open_mark iuc = if iuc == initial_maintenance then 61 else 45

-- whose an interval is: everybody's, a poll, to range in, or the last digit of the SID that it is granted to
abbrev pub owner_mark : Interval → ℕ
owner_mark i =
    if i.sid == everybody then open_mark i.iuc else if i.iuc == request then 63 else if i.iuc == station_maintenance then 33 else 48 + i.sid % 10

-- whose minislot x is; a dot where it is nobody's
abbrev pub owner_at : List Interval → ℕ → ℕ
owner_at [] x = 46
owner_at (i ∷ is) x = if holds i x then owner_mark i else owner_at is x

-- whose the first minislot of each column is
abbrev pub column_owner : List Interval → (len column : ℕ) → ℕ
column_owner is len column = owner_at is (column * len / bar_columns)

unfoldable pub owners : List Interval → (len : ℕ) → List ℕ
owners is len = columns (column_owner is len) bar_columns
