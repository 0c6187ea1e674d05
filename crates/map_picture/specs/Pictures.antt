-- The picture of the account of a plan, and of what modems transmitted in its MAPs.
use Rattle.std.specs.Prelude.{◌≡◌, ℕ, ◌+◌, ◌*◌, ◌^◌, ◌<◌, List, [], ◌∷◌, ◌++◌, codes, decimal, length, slice_get}
use Rattle.std.specs.Prelude.{Option, Some, None}
use Rattle.std.specs.List.Sorted.{IsPermutation}
use Rattle.plan_account.specs.declared.deed.Deed.{Deed}
use Rattle.plan_account.specs.declared.deed.Deed.TheVariants as deeds
use Rattle.plan_account.specs.declared.past.LeaseRow.{LeaseRow}
use Rattle.plan_account.specs.declared.past.RequestRow.{RequestRow}
use Rattle.plan_account.specs.Accounts.{Rows}
use Rattle.plan_account.specs.Deeds.{channels_of}
use Rattle.plan_account.specs.Shown.{Shown}
use Rattle.xml_text.specs.Xml.{Drawn, Xml, drawing, join, render, said, shape, titled}
use Rattle.xml_text.specs.Xml.Tag.{Rectangle, Words}
use Rattle.xml_text.specs.Xml.Xml.{Nothing}
use Rattle.xml_text.specs.Each.{each}
use Rattle.map_picture.specs.declared.axis.Axis.{Axis}
use Rattle.map_picture.specs.declared.axis.Columns.{Columns}
use Rattle.map_picture.specs.declared.axis.Page.{Page}
use Rattle.map_picture.specs.declared.axis.Span.{Span}
use Rattle.map_picture.specs.declared.cells.Strip.{Strip}
use Rattle.map_picture.specs.declared.sent.Sent.{Sent}
use Rattle.map_picture.specs.Axis.{at, right, span_of, wide}
use Rattle.map_picture.specs.Scales.{no_map, numbers, scale, ticks}
use Rattle.map_picture.specs.Columns.{columns_of}
use Rattle.map_picture.specs.Picked.{leases_on, maps_on, requests_on}
use Rattle.map_picture.specs.Cells.{cells}
use Rattle.map_picture.specs.Owners.{owner_row}
use Rattle.map_picture.specs.Asked.{asked}
use Rattle.map_picture.specs.Wedges.{wedges}

-- a text is the rendering of elements
abbrev pub IsRendered : List ℕ → Type 0
IsRendered text = (x : Xml) × (text ≡ render x)

-- what is drawn of a channel: what commands did, the numbers above it, what modems sent, and its rows
pub record ChannelRows : Type 0 where
  pub page : Page
  pub deeds : List Deed
  pub numbers : List ℕ
  pub sent : List Sent
  pub owners : List LeaseRow
  pub requests : List RequestRow
  pub maps : List ℕ

-- MAP k of a channel by its number, from 1 on
abbrev pub map_name : ℕ → List ℕ
map_name k = codes "MAP " ++ decimal (k + 1)

-- the strip of a MAP: its number, its cells, what modems transmitted in it, and which command gave it when
abbrev pub strip_name : Strip → Xml
strip_name s = said (Words s.columns.names (s.y + 11) (codes "s e b")) (map_name s.number)

abbrev pub strip_text : (i start len : ℕ) → List ℕ
strip_text i start len = codes "command " ++ (decimal (i + 1) ++ (codes ": " ++ (decimal len ++ (codes " from " ++ decimal start))))

abbrev pub strip_words : Strip → Xml
strip_words s = said (Words (right s.columns) (s.y + 11) (codes "s mute")) (strip_text s.deed s.start s.len)

abbrev pub strip_row : ChannelRows → Strip → Shown → Xml
strip_row c s map = join (join (join (join (strip_name s) (cells s map.intervals)) (ticks s c.numbers)) (wedges c.sent s)) (strip_words s)

-- the strip of deed i, which is MAP k
abbrev pub strip_by : Columns → (y k i ch start len : ℕ) → Strip
strip_by columns y k i ch start len = record { columns = columns; y = y; number = k; deed = i; ch = ch; start = start; len = len }

abbrev pub strip_of : ChannelRows → (y k i : ℕ) → Deed → Xml
strip_of c y k i (deeds.Map ch start len keep map) = strip_row c (strip_by c.page.axis.columns y k i ch start len) map
strip_of c y k i (deeds.Channel ch) = Nothing
strip_of c y k i (deeds.Flow ch sid modem first last kind) = Nothing
strip_of c y k i (deeds.Drop ch sid) = Nothing
strip_of c y k i (deeds.Request ch sid n sent) = Nothing
strip_of c y k i deeds.Other = Nothing

abbrev pub strip_with : ChannelRows → (y k i : ℕ) → Option Deed → Xml
strip_with c y k i (Some d) = strip_of c y k i d
strip_with c y k i None = Nothing

abbrev pub strip_for : ChannelRows → (y k : ℕ) → Option ℕ → Xml
strip_for c y k (Some i) = strip_with c y k i (slice_get c.deeds i)
strip_for c y k None = Nothing

-- sections: a row a lease, a row a request, and a row a MAP, each 22 high
abbrev pub owner_for : ChannelRows → (y : ℕ) → Option LeaseRow → Xml
owner_for c y (Some l) = owner_row c.deeds (record { page = c.page; y = y; row = l })
owner_for c y None = Nothing

abbrev pub owner_at : ChannelRows → (top k : ℕ) → Xml
owner_at c top k = owner_for c (top + 22 * k) (slice_get c.owners k)

abbrev pub owners : ChannelRows → (top : ℕ) → Xml
owners c top = each (length c.owners) (owner_at c top)

abbrev pub request_for : Axis → (y : ℕ) → Option RequestRow → Xml
request_for axis y (Some r) = asked axis y r
request_for axis y None = Nothing

abbrev pub request_at : ChannelRows → (top k : ℕ) → Xml
request_at c top k = request_for c.page.axis (top + 22 * k) (slice_get c.requests k)

abbrev pub requests : ChannelRows → (top : ℕ) → Xml
requests c top = each (length c.requests) (request_at c top)

abbrev pub strip_at : ChannelRows → (top k : ℕ) → Xml
strip_at c top k = strip_for c (top + 22 * k) k (slice_get c.maps k)

abbrev pub strips : ChannelRows → (top : ℕ) → Xml
strips c top = each (length c.maps) (strip_at c top)

-- the frame of MAP k on the axis of time, down to the last request
abbrev pub frame : Axis → (y height k : ℕ) → Deed → Xml
frame axis y height k (deeds.Map ch start len keep map) =
    titled (map_name k) (shape (Rectangle (at axis start) y (wide axis start (start + len)) height (codes "frame")))
frame axis y height k (deeds.Channel ch) = Nothing
frame axis y height k (deeds.Flow ch sid modem first last kind) = Nothing
frame axis y height k (deeds.Drop ch sid) = Nothing
frame axis y height k (deeds.Request ch sid n sent) = Nothing
frame axis y height k deeds.Other = Nothing

abbrev pub frame_for : Axis → (y height k : ℕ) → Option Deed → Xml
frame_for axis y height k (Some d) = frame axis y height k d
frame_for axis y height k None = Nothing

abbrev pub frame_of : ChannelRows → (y height k : ℕ) → Option ℕ → Xml
frame_of c y height k (Some i) = frame_for c.page.axis y height k (slice_get c.deeds i)
frame_of c y height k None = Nothing

abbrev pub frame_at : ChannelRows → (y height k : ℕ) → Xml
frame_at c y height k = frame_of c y height k (slice_get c.maps k)

abbrev pub frames : ChannelRows → (y height : ℕ) → Xml
frames c y height = each (length c.maps) (frame_at c y height)

abbrev pub heading : (ch y : ℕ) → Xml
heading ch y = said (Words 16 (y + 16) (codes "h")) (codes "channel " ++ decimal ch)

-- a channel from y down: numbers of minislots, frames of its MAPs round a row a lease and a row a request, and then a
-- row a MAP
abbrev pub channel_rows : ChannelRows → (y : ℕ) → Xml
channel_rows c y =
    join (join (join (join (join (join (heading c.page.ch y) (no_map c.page.axis y)) (scale c.page.axis y c.numbers))
    (frames c (y + 42) (22 * length c.owners + 22 * length c.requests + 2))) (owners c (y + 46))) (requests c (y + 46 + 22 * length c.owners)))
    (strips c (y + 60 + 22 * length c.owners + 22 * length c.requests))

-- its axis
abbrev pub axis_by : Span → List LeaseRow → List RequestRow → Axis
axis_by span ls rs = record { columns = columns_of span ls rs; span = span }

abbrev pub axis_of : Rows → (ch : ℕ) → Axis
axis_of a ch = axis_by (span_of a.deeds ch) (leases_on ch a.leases) (requests_on ch a.requests)

abbrev pub rows_on : Rows → List Sent → (ch : ℕ) → ChannelRows
rows_on a ts ch = record {
  page = record { ch = ch; axis = axis_of a ch };
  deeds = a.deeds;
  numbers = numbers (span_of a.deeds ch);
  sent = ts;
  owners = leases_on ch a.leases;
  requests = requests_on ch a.requests;
  maps = maps_on ch a.deeds;
}

abbrev pub channel : Rows → List Sent → (ch y : ℕ) → Xml
channel a ts ch y = channel_rows (rows_on a ts ch) y

-- how high it is
abbrev pub channel_height : Rows → ℕ → ℕ
channel_height a ch = 80 + 22 * length (leases_on ch a.leases) + 22 * length (requests_on ch a.requests) + 22 * length (maps_on ch a.deeds)

-- where channels begin, the first at y, and where the last one ends
abbrev pub tops_from : Rows → ℕ → List ℕ → List ℕ
tops_from a y [] = y ∷ []
tops_from a y (ch ∷ channels) = y ∷ tops_from a (y + channel_height a ch) channels

-- channels one below the other
pub record Stack : Type 0 where
  pub account : Rows
  pub sent : List Sent
  pub channels : List ℕ
  pub tops : List ℕ

abbrev pub channel_for : Stack → Option ℕ → Option ℕ → Xml
channel_for s (Some ch) (Some y) = channel s.account s.sent ch y
channel_for s ch y = Nothing

abbrev pub channel_at : Stack → ℕ → Xml
channel_at s k = channel_for s (slice_get s.channels k) (slice_get s.tops k)

-- the channels that deeds set
abbrev pub first_top : ℕ
first_top = 72

abbrev pub stack_of : Rows → List Sent → Stack
stack_of a ts = record { account = a; sent = ts; channels = channels_of a.deeds; tops = tops_from a first_top (channels_of a.deeds) }

abbrev pub stacked : Stack → Xml
stacked s = each (length s.channels) (channel_at s)

abbrev pub channels_drawn : Rows → List Sent → Xml
channels_drawn a ts = stacked (stack_of a ts)

-- the layers: channels below a legend
abbrev pub layers : Rows → List Sent → (legend : Xml) → Drawn
layers a ts legend = record { rules = Nothing; bands = channels_drawn a ts; arrows = Nothing; marks = Nothing; labels = legend }

-- there are so few rows that a picture fits into memory
pub record IsDrawable (a : Rows) : Type 0 where
  pub deeds : length a.deeds < 2 ^ 26
  pub requests : length a.requests < 2 ^ 26
  pub leases : length a.leases < 2 ^ 26

-- a text is a picture of an account and of what modems transmitted, in whatever order: in some size, with some title,
-- style, definitions and legend
pub record IsPictureOf (a : Rows) (ts : List Sent) (text : List ℕ) : Type 0 where
  pub drawn : List Sent
  pub same : IsPermutation ts drawn
  pub width : ℕ
  pub height : ℕ
  pub title : List ℕ
  pub style : List ℕ
  pub definitions : Xml
  pub legend : Xml
  pub rendered : text ≡ render (drawing width height title style definitions (layers a drawn legend))
