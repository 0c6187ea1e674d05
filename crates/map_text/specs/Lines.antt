-- A MAP as lines of at most 100 columns. Numbers are decimal.
use Rattle.std.specs.Prelude.{ℕ, ◌-◌, ◌==◌, if◌then◌else◌, List, ◌++◌, length, replicate, flat_map, codes, decimal}
use Rattle.map_body.specs.declared.element.Element.{Element}
use Rattle.map_body.specs.declared.interval.Interval.{Interval}
use Rattle.map_body.specs.Iucs.{request, station_maintenance}
use Rattle.map_body.specs.Sids.{everybody}
use Rattle.plan_account.specs.Shown.{Shown}
use Rattle.map_text.specs.Bars.{bar, open_mark, owners}

-- a text at the right of so many columns, and at their left
unfoldable pub right : ℕ → List ℕ → List ℕ
right width text = replicate (width - length text) 32 ++ text

unfoldable pub left : ℕ → List ℕ → List ℕ
left width text = text ++ replicate (width - length text) 32

-- a SID by its name, and whose an interval is
unfoldable pub sid_name : ℕ → List ℕ
sid_name sid = codes "sid " ++ decimal sid

unfoldable pub owner_name : ℕ → List ℕ
owner_name sid = if sid == everybody then codes "all" else sid_name sid

-- how an interval's minislots stand in its bar: everybody's, a poll, to range in, a grant
abbrev pub bar_sign : Interval → ℕ
bar_sign i = if i.sid == everybody then open_mark i.iuc else if i.iuc == request then 63 else if i.iuc == station_maintenance then 33 else 35

-- what stands before a bar: offset, length, owner and use
unfoldable pub interval_front : Interval → List ℕ
interval_front i =
    right 6 (decimal i.from) ++ (right 6 (decimal (i.to - i.from))
    ++ (codes "  " ++ (left 8 (owner_name i.sid) ++ (right 4 (decimal i.iuc) ++ codes "      |"))))

-- the line of an interval of a MAP of so many minislots
unfoldable pub interval_line : ℕ → Interval → List ℕ
interval_line len i = interval_front i ++ (bar i.from i.to len (bar_sign i) ++ codes "|\n")

-- what stands in place of an offset and a length
unfoldable pub indent : List ℕ
indent = replicate 14 32

-- what stands behind an element after the Null
unfoldable pub waits : List ℕ
waits = codes "      waits\n"

-- the line of an element after the Null
unfoldable pub waiting_line : Element → List ℕ
waiting_line e = indent ++ (left 8 (sid_name e.sid) ++ (right 4 (decimal e.iuc) ++ waits))

-- where a MAP begins, how long it is, its Ack Time
unfoldable pub span_text : (start len ack : ℕ) → List ℕ
span_text start len ack = codes " start " ++ (decimal start ++ (codes " len " ++ (decimal len ++ (codes " ack " ++ decimal ack))))

-- a MAP's first line: its channel, its number there, its command's number, and that
unfoldable pub head_line : (ch number command start len ack : ℕ) → List ℕ
head_line ch number command start len ack =
    codes "channel " ++ (decimal ch ++ (codes " map " ++ (decimal number ++ (codes " command " ++ (decimal command ++ (span_text start len ack ++ codes "\n"))))))

-- its second line: whose the first minislot of each column is
unfoldable pub owners_line : ℕ → List Interval → List ℕ
owners_line len is = codes "offset   len  owner     iuc     |" ++ (owners is len ++ codes "|\n")

-- all of its lines
abbrev pub map_lines : (ch number command start len : ℕ) → Shown → List ℕ
map_lines ch number command start len map =
    head_line ch number command start len map.ack
    ++ (owners_line len map.intervals
    ++ (flat_map (interval_line len) map.intervals
    ++ flat_map waiting_line map.waiting))
