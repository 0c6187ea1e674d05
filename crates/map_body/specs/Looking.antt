-- What a look at elements from left to right has found.
use Rattle.std.specs.Prelude.{◌≡◌, ℕ, suc, ◌<◌, Bool, true, false, List, length, Some, slice_get, MatchOption}
use Rattle.std.specs.Option.{is_some}
use Rattle.std.specs.List.{flat_map, AllByRecursion}
use Rattle.map_body.specs.declared.element.Element.{Element}
use Rattle.map_body.specs.declared.fault.MapFault.{MapFault}
use Rattle.map_body.specs.declared.fault.MapFault.TheVariants.{Short, Trailing, Expansion, OutOfOrder, NoNull}
use Rattle.map_body.specs.declared.fault.MapFault.TheVariants.{OutOfMemory, TooMany}
use Rattle.map_body.specs.declared.judging.Seen.{Seen}
use Rattle.map_body.specs.declared.reading.Walk.{Walk}
use Rattle.map_body.specs.Rules.{IsNull, IsFirstNull, NoNullBefore, SoundBefore, FitsElement, FirstElementFault}
use Rattle.map_body.specs.Intervals.{null_offset}
use Rattle.map_body.specs.Layout.{element_bytes}

-- the elements before i are sound; whether a Null is among them; the offset of the last of them
pub record Scanned (es : List Element) (i : ℕ) (null_seen : Bool) (last : ℕ) : Type 0 where
  pub sound : SoundBefore es i
  pub clear : null_seen ≡ false → NoNullBefore es i
  pub seen : null_seen ≡ true → (k : ℕ) × (k < i) × IsNull es k
  pub last_is : (j : ℕ) (e : Element) → i ≡ suc j → slice_get es j ≡ Some e → last ≡ e.offset
  pub first : i ≡ 0 → last ≡ 0

-- nothing is wrong so far; the Null's offset, if one stands there
pub record IsSound (es : List Element) (seen : Seen) : Type 0 where
  pub scanned : Scanned es (length es) (is_some seen.null) seen.last
  pub null : null_offset es ≡ seen.null

-- a fault that no later element changes
abbrev pub IsFound : List Element → MapFault → Type 0
IsFound es (Expansion i) = FirstElementFault es (Expansion i)
IsFound es (OutOfOrder i) = FirstElementFault es (OutOfOrder i)
IsFound es NoNull = ⊥
IsFound es Short = ⊥
IsFound es Trailing = ⊥
IsFound es OutOfMemory = ⊥
IsFound es TooMany = ⊥

-- this was seen of the elements so far
abbrev pub Saw : List Element → Seen → Type 0
Saw es seen = MatchOption seen.fault (IsSound es seen) (λ fault. IsFound es fault)

-- nothing is wrong with the elements so far; the place of the first Null, if one stands there; the offset of the last
pub record IsWalked (es : List Element) (walk : Walk) : Type 0 where
  pub scanned : Scanned es (length es) (is_some walk.null) walk.last
  pub first : (k : ℕ) → walk.null ≡ Some k → IsFirstNull es k

-- the bytes are these elements, so many
pub record AreLaid (bytes : List ℕ) (count : ℕ) (es : List Element) : Type 0 where
  pub bytes_are : bytes ≡ flat_map element_bytes es
  pub as_many : length es ≡ count
  pub fit : AllByRecursion FitsElement es
