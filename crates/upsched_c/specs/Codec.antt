-- What the calls of the codec do, by their status.
use Rattle.std.specs.Prelude.{◌≡◌, ℕ, ◌<◌, ◌≤◌, List, ◌++◌, length, map, drop, Some, slice_get}
use Rattle.map_body.specs.declared.element.Element.{Element}
use Rattle.map_body.specs.Body.{Body}
use Rattle.map_body.specs.Cell.{IsCell}
use Rattle.map_body.specs.Layout.{IsBody, IsWritten, FirstFault}
use Rattle.map_body.specs.Rules.{FitsElement, MakingFault}
use Rattle.upsched_c.specs.declared.status.Status.{Status}
use Rattle.upsched_c.specs.declared.status.Status.TheVariants as statuses
use Rattle.upsched_c.specs.declared.structs.MapHead.{MapHead}
use Rattle.upsched_c.specs.declared.structs.MapElement.{MapElement}
use Rattle.upsched_c.specs.declared.structs.MapCell.{MapCell}
use Rattle.upsched_c_parts.specs.Fronts.{over_front}
use Rattle.upsched_c.specs.Statuses.{place_of}
use Rattle.upsched_c.specs.Structs.{head_value, element_value}

-- where a body is read to: its head, room for its elements, and their number
pub record Read : Type 0 where
  pub head : MapHead
  pub elements : List MapElement
  pub count : ℕ

abbrev pub read : MapHead → List MapElement → ℕ → Read
read head elements count = record { head = head; elements = elements; count = count }

-- the body stands there, its elements at the front of the room, behind which nothing changed
pub record IsReadTo (body : Body) (old new : Read) : Type 0 where
  pub head : head_value new.head ≡ body.head
  pub count : new.count ≡ length body.elements
  pub room : length body.elements ≤ length old.elements
  pub elements : map element_value new.elements ≡ body.elements ++ drop (length body.elements) (map element_value old.elements)

-- for so many elements no memory was found: if there is no room for them, that is told, and how many they are
abbrev pub LacksMemory : (wanted room old new : ℕ) → Status → Type 0
LacksMemory wanted room old new statuses.NoRoom = (room < wanted) × (new ≡ wanted)
LacksMemory wanted room old new statuses.OutOfMemory = (wanted ≤ room) × (new ≡ old)
LacksMemory wanted room old new _ = ⊥

-- bytes are read: they are a body that there is room for, a body that is longer, or no body; memory is wanted for a
-- body with room alone
abbrev pub Decodes : List ℕ → Read → Read → Status → Type 0
Decodes bytes old new statuses.Done = (body : Body) × IsBody bytes body × IsReadTo body old new
Decodes bytes old new statuses.NoRoom =
    (body : Body) × IsBody bytes body × (length old.elements < length body.elements) × (new ≡ record old { count = length body.elements })
Decodes bytes old new (statuses.Map fault) = FirstFault bytes fault × (new ≡ record old { count = place_of fault })
Decodes bytes old new statuses.OutOfMemory =
    (body : Body) × IsBody bytes body × (length body.elements ≤ length old.elements) × (new ≡ old)
Decodes bytes old new _ = ⊥

-- where bytes are written to: room for them, and their number
pub record Written : Type 0 where
  pub bytes : List ℕ
  pub count : ℕ

abbrev pub written : List ℕ → ℕ → Written
written bytes count = record { bytes = bytes; count = count }

-- each field of the elements before i fits its bits
abbrev pub FitBefore : List MapElement → ℕ → Type 0
FitBefore es i = (k : ℕ) → k < i → (e : MapElement) → slice_get es k ≡ Some e → FitsElement (element_value e)

-- and so does each field of them all
abbrev pub AllFit : List MapElement → Type 0
AllFit es = FitBefore es (length es)

-- element i is the first of which a field doesn't
pub record IsFirstUnfit (es : List MapElement) (i : ℕ) : Type 0 where
  pub here : (e : MapElement) × (slice_get es i ≡ Some e) × ¬ FitsElement (element_value e)
  pub before : FitBefore es i

-- the body of these fields
abbrev pub body_of : MapHead → List MapElement → Body
body_of head es = record { head = head_value head; elements = map element_value es }

-- a head and elements are written where they make a body and there is room for its bytes; of what is wrong the first is
-- told
abbrev pub Encodes : MapHead → List MapElement → Written → Written → Status → Type 0
Encodes head es old new statuses.Done =
    (bytes : List ℕ) × IsWritten bytes (body_of head es) × (length bytes ≤ length old.bytes)
    × (new ≡ written (over_front bytes old.bytes) (length bytes))
Encodes head es old new statuses.NoRoom =
    (bytes : List ℕ) × IsWritten bytes (body_of head es) × (length old.bytes < length bytes) × (new ≡ record old { count = length bytes })
Encodes head es old new statuses.BadField = (i : ℕ) × IsFirstUnfit es i × (new ≡ record old { count = i })
Encodes head es old new (statuses.Map fault) =
    AllFit es × MakingFault (map element_value es) fault × (new ≡ record old { count = place_of fault })
Encodes head es old new statuses.OutOfMemory =
    (bytes : List ℕ) × IsWritten bytes (body_of head es) × (length bytes ≤ length old.bytes) × (new ≡ old)
Encodes head es old new _ = ⊥

-- whose minislot x of a body is, counted from its start
abbrev pub LooksUp : List ℕ → ℕ → MapCell → MapCell → Status → Type 0
LooksUp bytes x old new statuses.Done =
    (body : Body) × IsBody bytes body × (e : Element) × IsCell body x e × (new ≡ record { sid = e.sid; iuc = e.iuc })
LooksUp bytes x old new statuses.Absent =
    (body : Body) × IsBody bytes body × ((e : Element) → ¬ IsCell body x e) × (new ≡ old)
LooksUp bytes x old new (statuses.Map fault) = FirstFault bytes fault × (new ≡ old)
LooksUp bytes x old new statuses.OutOfMemory = (body : Body) × IsBody bytes body × (new ≡ old)
LooksUp bytes x old new _ = ⊥
