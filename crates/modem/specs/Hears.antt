-- What hearing an output does, by cases.
use Rattle.std.specs.Prelude.{◌≡◌, ℕ, ◌<◌, ◌≤◌, max, true, false, ◌==◌, List, Option, Some, None, ◌⊎◌, ◌↔◌, MatchBool}
use Rattle.std.specs.List.{filter_map}
use Rattle.map_body.specs.Heard.{Reads, IsAckTime}
use Rattle.map_body.specs.Iucs as iucs
use Rattle.map_body.specs.Sids.{everybody}
use Rattle.map_body.specs.Body.{Body}
use Rattle.grant_machine.specs.declared.output.Output.{Output}
use Rattle.grant_machine.specs.declared.output.Output.TheVariants.{Nothing, ChannelSet, Assigned, Map as MapOutput}
use Rattle.grant_machine.specs.declared.output.Output.TheVariants.{Refused}
use Rattle.modem.specs.declared.known.Channel.{Channel}
use Rattle.modem.specs.declared.known.OwnLease.{OwnLease}
use Rattle.modem.specs.declared.types.Heard.{Heard}
use Rattle.modem.specs.declared.types.Heard.TheVariants.{Taken, NotMine, OtherUcd, Past, Unreadable}
use Rattle.modem.specs.State.{State, HasAt, is_own_at, has_lease, with_lease, is_recent, recent, lease_of, with_ucd}
use Rattle.modem.specs.State.{with_channel, channel_of, clock_of}
use Rattle.modem.specs.Wants.{lasting}
use Rattle.modem.specs.Intervals.{decided}
use Rattle.modem.specs.Held.{GivesCell}

-- from the clock on, the new state holds what the old one held, and its request minislots are the same
pub record KeepsHeld (old new : State) : Type 0 where
  pub grants : (ch m sid iuc : ℕ) → clock_of new.channels ch ≤ m → HasAt new.grants ch m sid iuc ↔ HasAt old.grants ch m sid iuc
  pub open_to_all : (ch m : ℕ) → clock_of new.channels ch ≤ m → HasAt new.open_to_all ch m everybody iucs.request ↔ HasAt old.open_to_all ch m everybody iucs.request

-- the map, heard too late, moves the clock of its channel, which wants of ended leases don't outlast, and old leases
-- don't; nothing else changes
pub record Passes (old : State) (c : Channel) (near : ℕ) (new : State) : Type 0 where
  pub id : new.id ≡ old.id
  pub channels : new.channels ≡ with_channel (record c { clock = max c.clock near }) old.channels
  pub leases : new.leases ≡ recent c.id (max c.clock near) old.leases
  pub held : KeepsHeld old new
  pub wants : new.wants ≡ lasting old.leases c.id (max c.clock near) old.wants

-- the map is taken: what it gives the modem's SIDs where their leases cover it and what it opens to all is held from
-- then on, its back-offs are the channel's, it decides wants, and those of ended leases go, as do old leases
pub record Takes (old : State) (c : Channel) (near : ℕ) (map : Body) (start : ℕ) (new : State) : Type 0 where
  pub id : new.id ≡ old.id
  pub channels : new.channels ≡ with_channel (record c { clock = max c.clock near; backoff = map.head.data_backoff }) old.channels
  pub leases : new.leases ≡ recent c.id (max c.clock near) old.leases
  pub grants : (ch m sid iuc : ℕ) → clock_of new.channels ch ≤ m → HasAt new.grants ch m sid iuc ↔ (HasAt old.grants ch m sid iuc ⊎ (is_own_at old.leases ch sid m ≡ true) × GivesCell map start ch m sid iuc)
  pub open_to_all : (ch m : ℕ) → clock_of new.channels ch ≤ m → HasAt new.open_to_all ch m everybody iucs.request ↔ (HasAt old.open_to_all ch m everybody iucs.request ⊎ GivesCell map start ch m everybody iucs.request)
  pub wants : (ack : Option ℕ) × IsAckTime map.head.ack start ack × (new.wants ≡ lasting old.leases c.id (max c.clock near) (filter_map (decided old.leases map start ack) old.wants))

-- the bytes, read near a time, are a map of a known channel and its UCD Count that has not ended: it is to be taken
abbrev pub IsDue : State → List ℕ → ℕ → Type 0
IsDue old bytes near = (map : Body) × (start : ℕ) × («end» : ℕ) × Reads bytes near map start «end» × (c : Channel) × (channel_of old.channels map.head.channel ≡ Some c) × (c.ucd ≡ map.head.ucd) × (max c.clock near < «end»)

-- what hearing an output near a time may take memory for: a channel that isn't known, a recent lease that is new to it,
-- a map that is to be taken
abbrev pub MayGrow : State → Output → ℕ → Type 0
MayGrow old Nothing near = ⊥
MayGrow old (Refused _) near = ⊥
MayGrow old (ChannelSet ch ucd) near = channel_of old.channels ch ≡ None
MayGrow old (Assigned modem ch sid first last) near =
    (modem ≡ old.id)
    × (has_lease old.leases (lease_of ch sid first last) ≡ false)
    × (is_recent ch (clock_of old.channels ch) (lease_of ch sid first last) ≡ true)
MayGrow old (MapOutput _ _ _ bytes) near = IsDue old bytes near

-- a modem that hears the bytes of a map near a time gives this answer and becomes new
abbrev pub HearsMap : State → List ℕ → ℕ → Heard → State → Type 0
HearsMap old bytes near Unreadable new = ((map : Body) (start «end» : ℕ) → ¬ Reads bytes near map start «end») × (new ≡ old)
HearsMap old bytes near OtherUcd new = (map : Body) × (start : ℕ) × («end» : ℕ) × Reads bytes near map start «end» × ((c : Channel) → channel_of old.channels map.head.channel ≡ Some c → c.ucd ≡ map.head.ucd → ⊥) × (new ≡ old)
HearsMap old bytes near Past new = (map : Body) × (start : ℕ) × («end» : ℕ) × Reads bytes near map start «end» × (c : Channel) × (channel_of old.channels map.head.channel ≡ Some c) × (c.ucd ≡ map.head.ucd) × («end» ≤ max c.clock near) × Passes old c near new
HearsMap old bytes near Taken new = (map : Body) × (start : ℕ) × («end» : ℕ) × Reads bytes near map start «end» × (c : Channel) × (channel_of old.channels map.head.channel ≡ Some c) × (c.ucd ≡ map.head.ucd) × (max c.clock near < «end») × Takes old c near map start new
HearsMap old bytes near NotMine new = ⊥

-- the leases after one more of its own was heard: old ones of its channel go
abbrev pub leases_heard : State → OwnLease → List OwnLease
leases_heard old lease = recent lease.channel (clock_of old.channels lease.channel) (with_lease old.leases lease)

-- a modem that hears an output near a time gives this answer and becomes new
abbrev pub Hears : State → Output → ℕ → Heard → State → Type 0
Hears old Nothing near answer new = (answer ≡ NotMine) × (new ≡ old)
Hears old (Refused _) near answer new = (answer ≡ NotMine) × (new ≡ old)
Hears old (ChannelSet ch ucd) near answer new = (answer ≡ Taken) × (new ≡ record old { channels = with_ucd old.channels ch ucd (channel_of old.channels ch) })
Hears old (Assigned modem ch sid first last) near answer new =
    MatchBool (modem == old.id)
    ((answer ≡ Taken) × (new ≡ record old { leases = leases_heard old (lease_of ch sid first last) }))
    ((answer ≡ NotMine) × (new ≡ old))
Hears old (MapOutput _ _ _ bytes) near answer new = HearsMap old bytes near answer new
