-- In which minislots of a MAP modems transmitted: a wedge each, below its strip.
use Rattle.std.specs.Prelude.{ℕ, ◌+◌, ◌-◌, ◌*◌, ◌/◌, ◌<◌, ◌≤◌, ◌==◌, nat_le, nat_lt, Bool, ◌&&◌, not, if◌then◌else◌}
use Rattle.std.specs.Prelude.{max, List, [], ◌++◌, length, codes, decimal, slice_get, Option, Some, None}
use Rattle.std.specs.List.{AllWithin, list_any}
use Rattle.std.specs.List.Sorted.{IsNonDecreasingBy}
use Rattle.modem.specs.declared.types.Sending.{Sending}
use Rattle.modem.specs.declared.types.Sending.TheVariants.{Unicast, Polled, Request, Ranging}
use Rattle.xml_text.specs.Xml.{Xml, shape, titled}
use Rattle.xml_text.specs.Xml.Tag.{Path}
use Rattle.xml_text.specs.Xml.Xml.{Nothing}
use Rattle.xml_text.specs.Each.{each}
use Rattle.map_picture.specs.declared.cells.Strip.{Strip}
use Rattle.map_picture.specs.declared.sent.Sent.{Sent}

-- ---- which there are

-- it was in the channel of a MAP, in one of its minislots
abbrev pub is_in : Strip → Sent → Bool
is_in s t = (t.channel == s.ch) && (nat_le s.start t.slot && nat_lt t.slot (s.start + s.len))

-- another modem transmitted in the same minislot of the channel
abbrev pub meets : Sent → Sent → Bool
meets t u = (u.channel == t.channel) && ((u.slot == t.slot) && not (u.modem == t.modem))

-- one of them did: it is a collision
abbrev pub collides : List Sent → Sent → Bool
collides ts t = list_any (meets t) ts

-- ---- what each looks like

-- the middle of minislot x of a MAP of so many, on the axis of its cells
abbrev pub middle : (left len x : ℕ) → ℕ
middle left len x = left + (x * 768 + 384) / max len 1

-- a triangle with its tip there
abbrev pub wedge_steps : (x y : ℕ) → List ℕ
wedge_steps x y = codes "M" ++ (decimal x ++ (codes " " ++ (decimal y ++ codes "l5 8h-10z")))

-- red for a collision
abbrev pub wedge_class : Bool → List ℕ
wedge_class clash = if clash then codes "bad" else codes "sent"

-- what was sent
abbrev pub sending_words : Sending → List ℕ
sending_words (Unicast sid) = codes "sid " ++ (decimal sid ++ codes " sends")
sending_words (Polled sid n) = codes "sid " ++ (decimal sid ++ (codes " is polled, asks for " ++ decimal n))
sending_words (Request sid n) = codes "sid " ++ (decimal sid ++ (codes " asks for " ++ decimal n))
sending_words (Ranging sid) = codes "sid " ++ (decimal sid ++ codes " sends")

abbrev pub clash_words : Bool → List ℕ
clash_words clash = if clash then codes ", a collision" else []

-- what a wedge tells: the modem's id, what it sent, when, and whether that is a collision
abbrev pub wedge_title : Bool → Sent → List ℕ
wedge_title clash t =
    codes "modem " ++ (decimal t.id ++ (codes ": " ++ (sending_words t.sending ++ (codes ", minislot " ++ (decimal t.slot ++ clash_words clash)))))

abbrev pub wedge : Bool → Strip → Sent → Xml
wedge clash s t =
    titled (wedge_title clash t) (shape (Path (wedge_steps (middle s.columns.left s.len (t.slot - s.start)) (s.y + 11)) (wedge_class clash)))

-- ---- all of them

abbrev pub wedge_for : List Sent → Strip → Option Sent → Xml
wedge_for ts s (Some t) = if is_in s t then wedge (collides ts t) s t else Nothing
wedge_for ts s None = Nothing

abbrev pub wedge_at : List Sent → Strip → (k : ℕ) → Xml
wedge_at ts s k = wedge_for ts s (slice_get ts k)

-- a wedge for each transmission in the MAP, at its minislot, and for no other one
abbrev pub wedges : List Sent → Strip → Xml
wedges ts s = each (length ts) (wedge_at ts s)

-- ---- how they are found

abbrev pub slot_of : Sent → ℕ
slot_of t = t.slot

-- in the order of their minislots, whatever their channels
abbrev pub IsInOrder : List Sent → Type 0
IsInOrder ts = IsNonDecreasingBy slot_of ts

-- so many of them are before a minislot, and the others aren't
pub record AreBefore (slot count : ℕ) (ts : List Sent) : Type 0 where
  pub bound : count ≤ length ts
  pub before : AllWithin (λ t. slot_of t < slot) ts 0 count
  pub from : AllWithin (λ t. slot ≤ slot_of t) ts count (length ts)
