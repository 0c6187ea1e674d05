-- A MAP as it is heard near a time (CM-SP-MULPIv3.1, MAP message, Alloc Start Time and Ack Time).
use Rattle.std.specs.Prelude.{◌≡◌, ℕ, ◌+◌, ◌^◌, ◌<◌, List, Option, Some, None}
use Rattle.minislot_time.specs.Wire.{IsNear}
use Rattle.map_body.specs.Body.{Body}
use Rattle.map_body.specs.Intervals.{null_offset}
use Rattle.map_body.specs.Layout.{IsBody}

-- the map's 64-bit start near a time and its end, which is the Null's offset later; both are below 2^63
pub record IsExtent (near : ℕ) (map : Body) (start «end» : ℕ) : Type 0 where
  pub extension : IsNear map.head.start near start
  pub null : (len : ℕ) × (null_offset map.elements ≡ Some len) × («end» ≡ start + len)
  pub bound : «end» < 2 ^ 63

-- the bytes can be read near a time: a map, its start and its end
pub record Reads (bytes : List ℕ) (near : ℕ) (map : Body) (start «end» : ℕ) : Type 0 where
  pub body : IsBody bytes map
  pub extent : IsExtent near map start «end»

-- the time up to which the map acknowledges requests, extended near its start; None where there is no such time
abbrev pub IsAckTime : ℕ → ℕ → Option ℕ → Type 0
IsAckTime wire start None = (t : ℕ) → ¬ IsNear wire start t
IsAckTime wire start (Some t) = IsNear wire start t
