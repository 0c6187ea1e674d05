-- What leases that ended long ago count for: nothing.
use Rattle.std.specs.Prelude.{◌≡◌, ℕ, ◌+◌, ◌^◌, ◌<◌, ◌≤◌, List, Option}
use Rattle.map_body.specs.Body.{Body}
use Rattle.map_body.specs.Heard.{Reads}
use Rattle.modem.specs.declared.known.OwnLease.{OwnLease}
use Rattle.modem.specs.declared.known.Want.{Want}
use Rattle.modem.specs.State.{is_own_at, is_own_from}
use Rattle.modem.specs.Wants.{own_wants, lasting}
use Rattle.modem.specs.Intervals.{decided}

-- from 2^14 minislots before a clock of the channel on, both cover the same minislots for each SID, and go on as long
pub record CoverAlike (ch clock : ℕ) (some other : List OwnLease) : Type 0 where
  pub covers : (sid m : ℕ) → clock < m + 2 ^ 14 → is_own_at some ch sid m ≡ is_own_at other ch sid m
  pub lasts : (sid m : ℕ) → clock < m + 2 ^ 14 → is_own_from some ch sid m ≡ is_own_from other ch sid m

-- a map of the channel that hasn't ended by the clock decides wants alike
abbrev pub DecideAlike : ℕ → ℕ → List OwnLease → List OwnLease → Type 0
DecideAlike ch clock some other =
    (bytes : List ℕ) (near : ℕ) (map : Body) (start «end» : ℕ) (ack : Option ℕ) (w : Want)
    → Reads bytes near map start «end» → map.head.channel ≡ ch → clock < «end» → decided some map start ack w ≡ decided other map start ack w

-- from a clock of the channel on, a modem with either keeps the same of maps, takes the same requests, has the same
-- wants take part, keeps the same wants, and decides them alike
pub record ServeAlike (ch clock : ℕ) (some other : List OwnLease) : Type 0 where
  pub keeps : (sid m : ℕ) → clock ≤ m → is_own_at some ch sid m ≡ is_own_at other ch sid m
  pub takes : (sid m : ℕ) → clock ≤ m → is_own_from some ch sid m ≡ is_own_from other ch sid m
  pub shares : (m : ℕ) (wants : List Want) → clock ≤ m → own_wants some ch m wants ≡ own_wants other ch m wants
  pub stay : (m : ℕ) (wants : List Want) → clock ≤ m → lasting some ch m wants ≡ lasting other ch m wants
  pub decides : DecideAlike ch clock some other
