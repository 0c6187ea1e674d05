-- What a list of kept intervals stands for, and its order.
use Rattle.std.specs.Prelude.{◌≡◌, ◌↔◌, ℕ, ◌+◌, ◌*◌, ◌^◌, ◌<◌, ◌≤◌, Bool, true, leb, length, not, ◌==◌, ◌&&◌, ◌||◌}
use Rattle.std.specs.Prelude.{nat_lt, nat_le, if◌then◌else◌, min, max, map, List, All, Option, Some, None}
use Rattle.std.specs.List.{flat_map, filter_map, AllWithin}
use Rattle.std.specs.List.Sorted.{IsNonDecreasingBy}
use Rattle.map_body.specs.Iucs as iucs
use Rattle.map_body.specs.Sids.{everybody}
use Rattle.map_body.specs.declared.interval.Interval.{Interval}
use Rattle.modem.specs.declared.kept.KeptInterval.{KeptInterval}
use Rattle.modem.specs.declared.kept.Window.{Window}
use Rattle.modem.specs.declared.kept.Windows.{Windows}
use Rattle.modem.specs.declared.known.OwnLease.{OwnLease}
use Rattle.modem.specs.State.{State, Kept, HasAt, is_of}

-- a kept interval is itself
abbrev pub kept_interval : KeptInterval → Kept
kept_interval k = record { channel = k.channel; sid = k.sid; iuc = k.iuc; start = k.start; «end» = k.stop }

-- an interval of a map that starts there
abbrev pub interval_of : ℕ → ℕ → Interval → KeptInterval
interval_of ch start i = record { channel = ch; sid = i.sid; iuc = i.iuc; start = start + i.from; stop = start + i.to }

-- the interval covers the minislot
abbrev pub covers : ℕ → ℕ → Kept → Bool
covers ch m k = (k.channel == ch) && (nat_le k.start m && nat_lt m k.«end»)

-- it covers the minislot, with this SID and IUC
abbrev pub is_at : ℕ → ℕ → ℕ → ℕ → Kept → Bool
is_at ch m sid iuc k = covers ch m k && ((k.sid == sid) && (k.iuc == iuc))

-- an interval in which every modem may send a request
abbrev pub is_shared : Interval → Bool
is_shared i = (i.sid == everybody) && (i.iuc == iucs.request)

-- a minislot of a channel in the order: by channel, then by minislot
abbrev pub place : ℕ → ℕ → ℕ
place ch m = ch * 2 ^ 64 + m

-- an interval stands where it begins
abbrev pub place_of : KeptInterval → ℕ
place_of k = place k.channel k.start

-- fewer than 2^14 minislots
abbrev pub IsShort : KeptInterval → Type 0
IsShort k = k.stop < k.start + 2 ^ 14

-- intervals as a modem keeps them: in order, each of them short
pub record AreKept (ks : List KeptInterval) : Type 0 where
  pub ordered : IsNonDecreasingBy place_of ks
  pub short : All IsShort ks

-- so many of them stand before a place, and the others don't
pub record AreBefore (limit count : ℕ) (ks : List KeptInterval) : Type 0 where
  pub bound : count ≤ length ks
  pub before : AllWithin (λ k. place_of k < limit) ks 0 count
  pub from : AllWithin (λ k. limit ≤ place_of k) ks count (length ks)

-- it stands at or before a minislot of a channel, and is of a lower channel or over by then
abbrev pub is_past : ℕ → ℕ → KeptInterval → Bool
is_past ch m k = leb (place_of k) (place ch m) && (nat_lt k.channel ch || nat_le k.stop m)

-- so many of the first intervals are past at a minislot
pub record ArePast (ch m count : ℕ) (ks : List KeptInterval) : Type 0 where
  pub bound : count ≤ length ks
  pub past : AllWithin (λ k. is_past ch m k ≡ true) ks 0 count

-- a window splits intervals in order: those that are past, others that stand at or before a minislot, and those that
-- stand behind it
pub record IsWindow (ch m : ℕ) (ks : List KeptInterval) (w : Window) : Type 0 where
  pub past : ArePast ch m w.past ks
  pub order : w.past ≤ w.begun
  pub begun : AreBefore (place ch m + 1) w.begun ks

-- so many of the first are past, of intervals as contracts see them
abbrev pub ArePastOf : (ch m count : ℕ) → List Kept → Type 0
ArePastOf ch m count kept = (ks : List KeptInterval) → map kept_interval ks ≡ kept → ArePast ch m count ks

-- windows of a modem's grants and of its intervals that are open to all
pub record AreWindows (ch m : ℕ) (v : State) (w : Windows) : Type 0 where
  pub own : (ks : List KeptInterval) → map kept_interval ks ≡ v.grants → IsWindow ch m ks w.own
  pub «open» : (ks : List KeptInterval) → map kept_interval ks ≡ v.open_to_all → IsWindow ch m ks w.«open»

-- the part of an interval that a lease of its SID covers
abbrev pub piece : KeptInterval → OwnLease → Option KeptInterval
piece k lease = if is_of k.channel k.sid lease then Some (record k { start = max k.start lease.first; stop = min k.stop (lease.last + 1) }) else None

-- the parts of intervals that leases of their SIDs cover
abbrev pub covered : List OwnLease → List KeptInterval → List KeptInterval
covered leases ks = flat_map (λ k. filter_map (piece k) leases) ks

-- it is of another channel or ends after the clock
abbrev pub is_live : ℕ → ℕ → KeptInterval → Bool
is_live ch clock k = not (k.channel == ch) || nat_lt clock k.stop

-- a list has in each 64-bit minislot what another one has of a channel, and nothing of any other channel
abbrev pub IsOfChannel : ℕ → List Kept → List Kept → Type 0
IsOfChannel ch all part =
    (at_ch m sid iuc : ℕ) → m < 2 ^ 64 → HasAt part at_ch m sid iuc ↔ ((at_ch ≡ ch) × HasAt all ch m sid iuc)

-- of a channel's intervals those stay that cover a minislot from one on, and those of other channels
abbrev pub KeepsFrom : List Kept → ℕ → ℕ → List Kept → Type 0
KeepsFrom was ch clock now =
    (at_ch m sid iuc : ℕ) → (ch ≡ at_ch → clock ≤ m) → HasAt now at_ch m sid iuc ↔ HasAt was at_ch m sid iuc
