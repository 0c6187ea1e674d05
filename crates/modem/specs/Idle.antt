-- What private calls find at a minislot, and up to the next at which it may differ.
use Rattle.std.specs.Prelude.{◌≡◌, ℕ, ◌+◌, ◌<◌, ◌≤◌, true, false, List, Option, Some, None, ◌⊎◌, ◌↔◌, MatchBool}
use Rattle.std.specs.Prelude.{Contains}
use Rattle.map_body.specs.Iucs as iucs
use Rattle.map_body.specs.Sids.{everybody}
use Rattle.modem.specs.declared.action.Action.{Action}
use Rattle.modem.specs.declared.action.Action.TheVariants.{Grant, Poll, Contention, LeaseEnd, Ranging}
use Rattle.modem.specs.declared.known.OwnLease.{OwnLease}
use Rattle.modem.specs.declared.known.Want.{Want}
use Rattle.modem.specs.State.{State, Kept, HasAt, is_own_at, is_own_from}
use Rattle.modem.specs.Wants.{unsent_of, IsLeastUnsent, own_wants, lasting}
use Rattle.modem.specs.Ticks.{Counts}
use Rattle.modem.specs.NextEvent.{grant}

-- nobody takes part in a minislot: it isn't open to all, or no SID that is the modem's there has an unsent want
abbrev pub NoneShares : State → ℕ → ℕ → Type 0
NoneShares v ch m = (¬ HasAt v.open_to_all ch m everybody iucs.request) ⊎ IsLeastUnsent (own_wants v.leases ch m v.wants) ch None

-- what counts in a minislot, if anything, lets the modem neither transmit nor range nor request
abbrev pub IsShared : Option (ℕ × ℕ) → Type 0
IsShared None = Unit {0}
IsShared (Some p) = (iucs.lets_transmit p.1 ≡ false) × (iucs.lets_range p.1 ≡ false) × (iucs.lets_request p.1 ≡ false)

-- by what counts nothing is sent and no number falls
abbrev pub NothingBy : State → ℕ → ℕ → Option (ℕ × ℕ) → Type 0
NothingBy v ch m None = NoneShares v ch m
NothingBy v ch m (Some p) =
    MatchBool (iucs.lets_transmit p.1)
    ⊥
    (MatchBool (iucs.lets_range p.1)
    ⊥
    (MatchBool (iucs.lets_request p.1)
    (unsent_of v.wants ch p.0 ≡ None)
    (NoneShares v ch m)))

-- the unsent want of least SID takes part in a minislot that is open to all, or nobody does
abbrev pub SharesAt : State → ℕ → ℕ → Option Action → Type 0
SharesAt v ch m None = NoneShares v ch m
SharesAt v ch m (Some (Contention sid n)) =
    HasAt v.open_to_all ch m everybody iucs.request
    × (w : Want)
    × IsLeastUnsent (own_wants v.leases ch m v.wants) ch (Some w)
    × (w.sid ≡ sid)
    × (w.n ≡ n)
SharesAt v ch m (Some (Grant sid iuc first last)) = ⊥
SharesAt v ch m (Some (Poll sid n)) = ⊥
SharesAt v ch m (Some (LeaseEnd sid)) = ⊥
SharesAt v ch m (Some (Ranging sid first last)) = ⊥

-- what is sent, or may be, by what counts in a minislot
abbrev pub SendsAt : State → ℕ → ℕ → Option (ℕ × ℕ) → Option Action → Type 0
SendsAt v ch m counted None = NothingBy v ch m counted
SendsAt v ch m counted (Some (Grant sid iuc first last)) =
    (counted ≡ Some (sid, iuc))
    × (iucs.lets_transmit iuc ≡ true)
    × (first ≤ m)
    × (m ≤ last)
    × Contains v.grants (grant ch sid iuc first last)
SendsAt v ch m counted (Some (Poll sid n)) =
    (iuc : ℕ)
    × (counted ≡ Some (sid, iuc))
    × (iucs.lets_transmit iuc ≡ false)
    × (iucs.lets_range iuc ≡ false)
    × (iucs.lets_request iuc ≡ true)
    × (w : Want)
    × (unsent_of v.wants ch sid ≡ Some w)
    × (w.n ≡ n)
SendsAt v ch m counted (Some (Contention sid n)) = IsShared counted × SharesAt v ch m (Some (Contention sid n))
SendsAt v ch m counted (Some (LeaseEnd sid)) = ⊥
SendsAt v ch m counted (Some (Ranging sid first last)) =
    (counted ≡ Some (sid, iucs.station_maintenance))
    × (first ≤ m)
    × (m ≤ last)
    × Contains v.grants (grant ch sid iucs.station_maintenance first last)

-- nothing comes in a minislot, and after it all wants stay
pub record IsIdle (v : State) (ch m : ℕ) : Type 0 where
  pub counted : Option (ℕ × ℕ)
  pub counts : Counts v.grants ch m counted
  pub nothing : NothingBy v ch m counted
  pub stay : lasting v.leases ch (m + 1) v.wants ≡ v.wants

-- kept intervals have at x what they have at m
abbrev pub HasSame : List Kept → ℕ → ℕ → ℕ → Type 0
HasSame ks ch m x = (sid iuc : ℕ) → HasAt ks ch x sid iuc ↔ HasAt ks ch m sid iuc

-- where the lease is of the channel, minislot x lies in it as m does, and it ends later as it does at m
abbrev pub IsSameIn : ℕ → ℕ → ℕ → OwnLease → Type 0
IsSameIn ch m x l = l.channel ≡ ch → (l.first ≤ x → l.first ≤ m) × (m ≤ l.last → x ≤ l.last) × (m < l.last → x < l.last)

-- the same SIDs are covered at x as at m, and have a lease that ends later
pub record CoverSame (leases : List OwnLease) (ch m x : ℕ) : Type 0 where
  pub own : (sid : ℕ) → is_own_at leases ch sid x ≡ is_own_at leases ch sid m
  pub lasts : (sid : ℕ) → is_own_from leases ch sid (x + 1) ≡ is_own_from leases ch sid (m + 1)

-- no want of the channel is unsent
abbrev pub HasNoUnsent : List Want → ℕ → Type 0
HasNoUnsent wants ch = (sid : ℕ) → unsent_of wants ch sid ≡ None

-- before a minislot, if there is one
abbrev pub IsBefore : Option ℕ → ℕ → Type 0
IsBefore None x = Unit {0}
IsBefore (Some n) x = x < n
