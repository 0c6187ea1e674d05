-- Which outputs are a schedule, and which hearings are of it.
use Rattle.std.specs.Prelude.{◌≡◌, ℕ, ◌+◌, ◌^◌, ◌<◌, ◌≤◌, List, [], ◌∷◌, Contains}
use Rattle.minislot_time.specs.Wire.{wire}
use Rattle.map_body.specs.Body.{Body}
use Rattle.map_body.specs.Layout.{IsBody}
use Rattle.grant_machine.specs.declared.output.Output.{Output}
use Rattle.grant_machine.specs.declared.output.Output.TheVariants.{Nothing, ChannelSet, Assigned, Map as MapOutput}
use Rattle.grant_machine.specs.declared.output.Output.TheVariants.{Refused}
use Rattle.grant_machine.specs.Owner.{Owns}
use Rattle.modem.specs.Held.{Hearing}

-- an output's bytes are a map of its channel, with its start as on the wire
pub record IsMapOf (ch start : ℕ) (bytes : List ℕ) (map : Body) : Type 0 where
  pub body : IsBody bytes map
  pub channel : map.head.channel ≡ ch
  pub start_is : wire start ≡ map.head.start
  pub bound : start < 2 ^ 63

-- a schedule: each Map's bytes are its map, the SIDs that are assigned are unicast ones, and a minislot has one owner
pub record AreSoundOutputs (outputs : List Output) : Type 0 where
  pub maps : (ch start len : ℕ) (bytes : List ℕ) → Contains outputs (MapOutput ch start len bytes) → (map : Body) × IsMapOf ch start bytes map
  pub unicast : (modem ch sid first last : ℕ) → Contains outputs (Assigned modem ch sid first last) → (1 ≤ sid) × (sid ≤ 8191)
  pub one_owner : (ch m modem other : ℕ) → Owns outputs ch m modem → Owns outputs ch m other → modem ≡ other

-- a Map is heard near its start: less than 2^31 minislots before or after it
abbrev pub IsTimely : Output → ℕ → Type 0
IsTimely (MapOutput ch start len bytes) near = (near < start + 2 ^ 31) × (start < near + 2 ^ 31)
IsTimely Nothing near = Unit {0}
IsTimely (ChannelSet ch ucd) near = Unit {0}
IsTimely (Assigned modem ch sid first last) near = Unit {0}
IsTimely (Refused n) near = Unit {0}

-- all that was heard are outputs of the list, in any order, any of them again or never
abbrev pub HeardFrom : List Output → List Hearing → Type 0
HeardFrom outputs [] = Unit {0}
HeardFrom outputs (h ∷ earlier) = Contains outputs h.output × IsTimely h.output h.near × HeardFrom outputs earlier
