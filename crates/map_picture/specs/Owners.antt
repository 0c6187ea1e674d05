-- The row of a lease: its windows, and what its SID is granted in it.
use Rattle.std.specs.Prelude.{ℕ, ◌+◌, ◌-◌, ◌%◌, ◌^◌, ◌==◌, if◌then◌else◌, List, [], ◌++◌, length, codes, decimal}
use Rattle.std.specs.Prelude.{slice_get, Option, Some, None}
use Rattle.flow_state.specs.declared.flow.FlowKind.{FlowKind}
use Rattle.flow_state.specs.declared.flow.FlowKind.TheVariants.{BestEffort, Ugs, Poll, Station, Initial}
use Rattle.map_body.specs.declared.interval.Interval.{Interval}
use Rattle.plan_account.specs.declared.deed.Deed.{Deed}
use Rattle.plan_account.specs.declared.deed.Deed.TheVariants as deeds
use Rattle.plan_account.specs.declared.past.LeaseRow.{LeaseRow}
use Rattle.xml_text.specs.Xml.{Xml, join, said, shape, titled}
use Rattle.xml_text.specs.Xml.Tag.{Rectangle, Words}
use Rattle.xml_text.specs.Xml.Xml.{Nothing}
use Rattle.xml_text.specs.Each.{each}
use Rattle.map_picture.specs.declared.owners.Owner.{Owner}
use Rattle.map_picture.specs.Axis.{at, right, wide}
use Rattle.map_picture.specs.Cells.{class_of, high}
use Rattle.map_picture.specs.Picked.{is_granted}
use Rattle.map_picture.specs.Windows.{windows}

-- ---- words

-- what a flow is
abbrev pub kind_words : FlowKind → List ℕ
kind_words (BestEffort priority) = codes "best effort " ++ decimal priority
kind_words (Ugs size interval jitter base) = codes "UGS " ++ (decimal size ++ (codes " every " ++ (decimal interval ++ (codes " within " ++ decimal jitter))))
kind_words (Poll interval jitter base) = codes "poll every " ++ (decimal interval ++ (codes " within " ++ decimal jitter))
kind_words (Station size interval jitter base) = codes "station " ++ (decimal size ++ (codes " every " ++ (decimal interval ++ (codes " within " ++ decimal jitter))))
kind_words (Initial size interval jitter base) = codes "initial " ++ (decimal size ++ (codes " every " ++ (decimal interval ++ (codes " within " ++ decimal jitter))))

-- how many of its windows were missed, as `stats` has it
abbrev pub missed_words : (missed : ℕ) → List ℕ
missed_words missed = if missed == 0 then [] else codes ", " ++ (decimal missed ++ codes " missed")

abbrev pub flow_words : LeaseRow → List ℕ
flow_words l = kind_words l.lease.kind ++ missed_words l.missed

-- ---- grants

-- the mark of a grant, or of a poll
abbrev pub grant_title : (start : ℕ) → Interval → List ℕ
grant_title start i = codes "sid " ++ (decimal i.sid ++ (codes ": from " ++ (decimal (start + i.from) ++ (codes ", " ++ (decimal (i.to - i.from) ++ codes " long")))))

abbrev pub grant_mark : Owner → (start : ℕ) → Interval → Xml
grant_mark o start i =
    titled (grant_title start i)
    (shape (Rectangle (at o.page.axis (start + i.from)) o.y (wide o.page.axis (start + i.from) (start + i.to)) (high i) (class_of i.sid)))

abbrev pub grant : Owner → (start : ℕ) → Interval → Xml
grant o start i = if is_granted o.row start i then grant_mark o start i else Nothing

abbrev pub grant_for : Owner → (start : ℕ) → Option Interval → Xml
grant_for o start (Some i) = grant o start i
grant_for o start None = Nothing

abbrev pub grant_at : Owner → (start : ℕ) → List Interval → ℕ → Xml
grant_at o start is k = grant_for o start (slice_get is k)

-- all of them in a MAP that begins then
abbrev pub grants_in : Owner → (start : ℕ) → List Interval → Xml
grants_in o start is = each (length is) (grant_at o start is)

-- those in a deed that is a MAP of the channel, and in all
abbrev pub grants_of : Owner → Deed → Xml
grants_of o (deeds.Map c start len keep map) = if c == o.page.ch then grants_in o start map.intervals else Nothing
grants_of o (deeds.Channel c) = Nothing
grants_of o (deeds.Flow c s modem first last kind) = Nothing
grants_of o (deeds.Drop c s) = Nothing
grants_of o (deeds.Request c s n sent) = Nothing
grants_of o deeds.Other = Nothing

abbrev pub grants_for : Owner → Option Deed → Xml
grants_for o (Some d) = grants_of o d
grants_for o None = Nothing

abbrev pub grants_at : List Deed → Owner → (i : ℕ) → Xml
grants_at ds o i = grants_for o (slice_get ds i)

abbrev pub grants : List Deed → Owner → Xml
grants ds o = each (length ds) (grants_at ds o)

-- ---- the row

-- whose row it is, and what the flow is
abbrev pub owner_words : LeaseRow → List ℕ
owner_words l = codes "sid " ++ (decimal (l.key % 2 ^ 16) ++ (codes ", modem " ++ decimal l.lease.modem))

abbrev pub owner_name_at : Owner → Xml
owner_name_at o = said (Words o.page.axis.columns.names (o.y + 11) (codes "s e")) (owner_words o.row)

abbrev pub flow_at : Owner → Xml
flow_at o = said (Words (right o.page.axis.columns) (o.y + 11) (codes "s mute")) (flow_words o.row)

-- a name, windows, a mark for each grant, and what the flow is
abbrev pub owner_row : List Deed → Owner → Xml
owner_row ds o = join (join (join (owner_name_at o) (windows ds o)) (grants ds o)) (flow_at o)
