-- The flows of a channel by SID, as the program keeps them.
use Rattle.std.specs.Prelude.{◌≡◌, ℕ, ◌-◌, ◌<◌, if◌then◌else◌, Bool, false, List, length, Option, nat_lt, slice_get}
use Rattle.std.specs.List.{filter_map, range_with_len}
use Rattle.std.specs.Map.{keys_of}
use Rattle.std.specs.Option.{option_map, option_map_or, option_and_then}
use Rattle.indexmap.specs.IndexMap.{spare}
use Rattle.flow_state.specs.declared.flow.Flow.{Flow}
use Rattle.flow_state.specs.declared.by_sid.FlowsBySid.TheInside.{Inside}

-- what is kept of each SID: its flow, if it has one
abbrev pub Places : Type 0
Places = List (ℕ × Option Flow)

-- the flows that are there, each under its SID
abbrev pub there : Places → List (ℕ × Flow)
there ps = filter_map (λ p. option_map (λ f. (p.0, f)) p.1) ps

-- the flow at a place
abbrev pub flow_at : Places → ℕ → Option Flow
flow_at ps place = option_and_then (λ p. p.1) (slice_get ps place)

-- the flows under their SIDs, how many SIDs had one, and for how many more there is room
pub record BySid : Type 0 where
  pub entries : List (ℕ × Flow)
  pub sids : ℕ
  pub room : ℕ

abbrev pub by_sid : Inside → BySid
by_sid a = record { entries = there a.places.entries; sids = length a.places.entries; room = spare a.places }

-- the SIDs are those from 1 on, without 65,535 at most
pub record IsBySid (a : Inside) : Type 0 where
  pub given : keys_of a.places.entries ≡ range_with_len 1 (length a.places.entries)
  pub few : length a.places.entries < 65535

-- a flow is there whose lease ends before a time
abbrev pub is_ended_flow : ℕ → Option Flow → Bool
is_ended_flow end flow = option_map_or (λ f. nat_lt f.lease.last end) flow false

-- the place of a SID, and for 0 one behind those of all SIDs
abbrev pub place_of : ℕ → ℕ
place_of sid = if nat_lt 0 sid then sid - 1 else 65535
