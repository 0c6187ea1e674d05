-- A MAP as a strip of cells, a cell an interval, on an axis of its own.
use Rattle.std.specs.Prelude.{◌≡◌, ℕ, ◌+◌, ◌-◌, ◌*◌, ◌/◌, ◌%◌, ◌==◌, ◌&&◌, ◌<◌, ◌≤◌, ◌^◌, nat_lt, if◌then◌else◌, max}
use Rattle.std.specs.Prelude.{IsTrue, List, [], ◌∷◌, ◌++◌, length, codes, decimal, slice_get, Option, Some, None}
use Rattle.map_body.specs.declared.interval.Interval.{Interval}
use Rattle.map_body.specs.Iucs.{initial_maintenance, request}
use Rattle.map_body.specs.Sids.{everybody}
use Rattle.plan_account.specs.Cover.{follow}
use Rattle.xml_text.specs.Xml.{Xml, join, said, shape, titled}
use Rattle.xml_text.specs.Xml.Tag.{Rectangle, Words}
use Rattle.xml_text.specs.Xml.Xml.{Nothing}
use Rattle.xml_text.specs.Each.{each}
use Rattle.map_picture.specs.declared.axis.Axis.{Axis}
use Rattle.map_picture.specs.declared.axis.Columns.{Columns}
use Rattle.map_picture.specs.declared.cells.Strip.{Strip}
use Rattle.map_picture.specs.Axis.{at}

-- the colour of a SID, by its remainder by 7
abbrev pub colour : ℕ → List ℕ
colour r =
    if r == 0 then codes "g0" else if r == 1 then codes "g1" else if r == 2 then codes "g2" else if r == 3 then codes "g3"
    else if r == 4 then codes "g4" else if r == 5 then codes "g5" else codes "g6"

abbrev pub class_of : ℕ → List ℕ
class_of sid = if sid == everybody then codes "open" else colour (sid % 7)

-- what an interval looks like: an opening for first ranging has a pattern of its own
abbrev pub cell_class : Interval → List ℕ
cell_class i = if (i.sid == everybody) && (i.iuc == initial_maintenance) then codes "opening" else class_of i.sid

-- how high an interval is, of 14: a poll is less
abbrev pub high : Interval → ℕ
high i = if i.sid == everybody then 14 else if i.iuc == request then 6 else 14

-- what words on it look like
abbrev pub words_class : ℕ → List ℕ
words_class sid = if sid == everybody then codes "s mute" else codes "s k"

-- where a minislot of a MAP of so many begins: 768 units for all of them, from the left end on
abbrev pub cell_x : (left len x : ℕ) → ℕ
cell_x left len x = left + x * 768 / max len 1

abbrev pub cell_width : Strip → Interval → ℕ
cell_width s i = cell_x s.columns.left s.len i.to - cell_x s.columns.left s.len i.from

-- whose minislots of a SID are
abbrev pub owner_name : ℕ → List ℕ
owner_name sid = if sid == everybody then codes "all" else codes "sid " ++ decimal sid

-- what a cell tells: whose it is, its use, where it begins, how long it is
abbrev pub cell_title : Interval → List ℕ
cell_title i =
    owner_name i.sid ++ (codes ", iuc " ++ (decimal i.iuc ++ (codes ": offset " ++ (decimal i.from ++ (codes ", " ++ (decimal (i.to - i.from) ++ codes " long"))))))

abbrev pub cell_shape : Strip → Interval → Xml
cell_shape s i =
    titled (cell_title i) (shape (Rectangle (cell_x s.columns.left s.len i.from) s.y (cell_width s i) (high i) (cell_class i)))

-- whose it is, where there is room for it: for 6 units a character
abbrev pub cell_words : Strip → Interval → Xml
cell_words s i =
    if nat_lt (cell_width s i) (6 * length (owner_name i.sid) + 8) then Nothing
    else said (Words (cell_x s.columns.left s.len i.from + 4) (s.y + 11) (words_class i.sid)) (owner_name i.sid)

abbrev pub cell : Strip → Interval → Xml
cell s i = join (cell_shape s i) (cell_words s i)

abbrev pub cell_for : Strip → Option Interval → Xml
cell_for s (Some i) = cell s i
cell_for s None = Nothing

abbrev pub cell_at : Strip → List Interval → ℕ → Xml
cell_at s is k = cell_for s (slice_get is k)

-- all of them
abbrev pub cells : Strip → List Interval → Xml
cells s is = each (length is) (cell_at s is)

-- how wide intervals are together, where minislots begin there
abbrev pub widths : (ℕ → ℕ) → List Interval → ℕ
widths x [] = 0
widths x (i ∷ is) = (x i.to - x i.from) + widths x is

-- the cells of intervals that follow one another from a MAP's first minislot to its last one fill the strip
abbrev pub CellsFill : Type 0
CellsFill = (is : List Interval) (left len : ℕ) → 0 < len → IsTrue (follow 0 is len) → widths (cell_x left len) is ≡ 768

-- a frame and its strip have the same ends: the first MAP of a channel begins, and the last one ends, where strips do;
-- and each minislot of a channel's only MAP is at the same place in both
pub record EndsAgree : Type 0 where
  pub first : (axis : Axis) (len : ℕ) → at axis axis.span.from ≡ cell_x axis.columns.left len 0
  pub last : (axis : Axis) (len : ℕ) → axis.span.from < axis.span.to → 0 < len → at axis axis.span.to ≡ cell_x axis.columns.left len len
  pub each : (columns : Columns) (start len x : ℕ) → 0 < len → len < 2 ^ 50 → x ≤ len
      → at (record { columns = columns; span = record { from = start; to = start + len } }) (start + x) ≡ cell_x columns.left len x
