-- The row of a request: when it was sent, when it was told to wait, what became of it.
use Rattle.std.specs.Prelude.{ℕ, ◌+◌, ◌-◌, ◌%◌, ◌^◌, if◌then◌else◌, min, List, [], ◌++◌, codes, decimal, Option, Some}
use Rattle.std.specs.Prelude.{None}
use Rattle.plan_account.specs.declared.past.Fate.{Fate}
use Rattle.plan_account.specs.declared.past.Fate.TheVariants.{Waits, Gone, Granted}
use Rattle.plan_account.specs.declared.past.RequestRow.{RequestRow}
use Rattle.plan_account.specs.declared.past.Told.{Told}
use Rattle.plan_account.specs.declared.why.Why.{Why}
use Rattle.plan_account.specs.Accounts.{why_last}
use Rattle.plan_account.specs.WhyTexts.{why_words}
use Rattle.xml_text.specs.Xml.{Xml, join, said, shape, titled}
use Rattle.xml_text.specs.Xml.Tag.{Circle, Line, Rectangle, Words}
use Rattle.xml_text.specs.Xml.Xml.{Nothing}
use Rattle.map_picture.specs.declared.axis.Axis.{Axis}
use Rattle.map_picture.specs.declared.axis.Span.{Span}
use Rattle.map_picture.specs.Axis.{at, is_bare, is_before, right, wide}
use Rattle.map_picture.specs.Cells.{class_of}

-- up to when it is drawn: its grant, the end of the axis, or when it was told last
abbrev pub last_told : ℕ → Option Told → ℕ
last_told sent (Some told) = told.start
last_told sent None = sent

abbrev pub stop_at : Axis → ℕ → Option Told → Fate → ℕ
stop_at axis sent told (Waits why) = axis.span.to
stop_at axis sent told Gone = last_told sent told
stop_at axis sent told (Granted map start) = start

abbrev pub stop : Axis → RequestRow → ℕ
stop axis r = stop_at axis r.sent r.told r.fate

-- whose request it is
abbrev pub asked_words : RequestRow → List ℕ
asked_words r = codes "sid " ++ (decimal (r.key % 2 ^ 16) ++ (codes " asks " ++ decimal r.n))

abbrev pub asked_name : Axis → (y : ℕ) → RequestRow → Xml
asked_name axis y r = said (Words axis.columns.names (y + 11) (codes "s e")) (asked_words r)

-- where it was sent: in the gutter, if that was before the axis begins
abbrev pub sent_x : Axis → ℕ → ℕ
sent_x axis t = if is_before axis.span t then axis.columns.left - 10 else at axis t

abbrev pub asked_line : Axis → (y : ℕ) → RequestRow → Xml
asked_line axis y r = shape (Line (sent_x axis r.sent) (y + 7) (at axis (stop axis r)) (y + 7) (codes "ask"))

-- how long before that it was
abbrev pub before_words : Span → RequestRow → List ℕ
before_words span r = if is_before span r.sent then decimal (span.from - r.sent) ++ codes " before" else []

abbrev pub before_at : Axis → (y : ℕ) → RequestRow → Xml
before_at axis y r =
    if is_before axis.span r.sent then said (Words (axis.columns.left - 18) (y + 11) (codes "s e mute")) (before_words axis.span r) else Nothing

-- a dot where it was sent, by the command of this number
abbrev pub sent_title : RequestRow → List ℕ
sent_title r = codes "command " ++ (decimal r.command ++ (codes ": sent at " ++ decimal r.sent))

abbrev pub sent_mark : Axis → (y : ℕ) → RequestRow → Xml
sent_mark axis y r = titled (sent_title r) (shape (Circle (sent_x axis r.sent) (y + 7) 4 (codes "sent")))

-- a ring where it was told to wait last, and why it waited
abbrev pub told_title : ℕ → Option Why → List ℕ
told_title start (Some why) = codes "told to wait at " ++ (decimal start ++ (codes ", " ++ why_words why))
told_title start None = codes "told to wait at " ++ decimal start

abbrev pub told_mark : Axis → ℕ → Option Told → Option Why → Xml
told_mark axis y (Some told) why = titled (told_title told.start why) (shape (Circle (at axis told.start) (y + 7) 4 (codes "ring")))
told_mark axis y None why = Nothing

-- a block where it is granted, in its SID's colour; else a red bar
abbrev pub bar : Axis → ℕ → RequestRow → Xml
bar axis y r = shape (Rectangle (at axis (stop axis r)) y 3 14 (codes "bad"))

abbrev pub end_mark : Axis → ℕ → RequestRow → Fate → Xml
end_mark axis y r (Waits why) = bar axis y r
end_mark axis y r Gone = bar axis y r
end_mark axis y r (Granted map start) =
    shape (Rectangle (at axis start) y (wide axis start (min (start + r.n) (2 ^ 64 - 1))) 14 (class_of (r.key % 2 ^ 16)))

-- what became of it, and why it waits, or waited last
abbrev pub end_words : ℕ → Fate → List ℕ
end_words sent (Waits why) = codes "still waits"
end_words sent Gone = codes "dropped"
end_words sent (Granted map start) = codes "after " ++ decimal (start - sent)

abbrev pub wait_words : Option Why → List ℕ
wait_words (Some why) = codes ": " ++ why_words why
wait_words None = []

abbrev pub ended_words : RequestRow → List ℕ
ended_words r = end_words r.sent r.fate ++ wait_words (why_last r.told r.fate)

abbrev pub ended_at : Axis → (y : ℕ) → RequestRow → Xml
ended_at axis y r = said (Words (right axis.columns) (y + 11) (codes "s mute")) (ended_words r)

-- its marks: none, where the channel has no MAP
abbrev pub asked_marks : Axis → (y : ℕ) → RequestRow → Xml
asked_marks axis y r =
    join (join (join (join (asked_line axis y r) (before_at axis y r)) (sent_mark axis y r)) (told_mark axis y r.told (why_last r.told r.fate)))
    (end_mark axis y r r.fate)

abbrev pub marks_at : Axis → (y : ℕ) → RequestRow → Xml
marks_at axis y r = if is_bare axis.span then Nothing else asked_marks axis y r

-- the row
abbrev pub asked : Axis → (y : ℕ) → RequestRow → Xml
asked axis y r = join (join (asked_name axis y r) (marks_at axis y r)) (ended_at axis y r)
