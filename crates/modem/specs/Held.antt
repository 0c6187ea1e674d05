-- What a modem has heard, and what that gives its SIDs.
use Rattle.std.specs.Prelude.{◌≡◌, ℕ, ◌+◌, ◌-◌, ◌^◌, ◌<◌, ◌≤◌, true, List, [], ◌∷◌, ◌⊎◌, ◌↔◌, Option, Some, None}
use Rattle.minislot_time.specs.Wire.{IsNear}
use Rattle.map_body.specs.declared.element.Element.{Element}
use Rattle.map_body.specs.Cell.{IsCell}
use Rattle.map_body.specs.Body.{Body}
use Rattle.map_body.specs.Layout.{IsBody}
use Rattle.grant_machine.specs.declared.output.Output.{Output}
use Rattle.grant_machine.specs.declared.output.Output.TheVariants.{Nothing, ChannelSet, Assigned, Map as MapOutput}
use Rattle.grant_machine.specs.declared.output.Output.TheVariants.{Refused}
use Rattle.modem.specs.declared.types.Heard.{Heard}
use Rattle.modem.specs.declared.types.Heard.TheVariants.{Taken}
use Rattle.modem.specs.declared.types.Sending.{Sending}
use Rattle.modem.specs.declared.types.Sending.TheVariants.{Unicast, Polled, Request, Ranging}
use Rattle.modem.specs.State.{State, HasAt, is_own_at, is_own_from, clock_of}

-- an output that was heard near a time, and what the modem answered to it
pub record Hearing : Type 0 where
  pub output : Output
  pub near : ℕ
  pub answer : Heard

-- a map has an element of this SID and IUC over minislot x, counted from its start, before the Null
abbrev pub HasCell : Body → ℕ → ℕ → ℕ → Type 0
HasCell map x sid iuc = (e : Element) × IsCell map x e × (e.sid ≡ sid) × (e.iuc ≡ iuc)

-- a map of this start gives the SID minislot m of the channel, by an element of this IUC before the Null
pub record GivesCell (map : Body) (start ch m sid iuc : ℕ) : Type 0 where
  pub channel : map.head.channel ≡ ch
  pub from : start ≤ m
  pub cell : HasCell map (m - start) sid iuc

-- the bytes are a map, and this is its 64-bit start near the time
pub record StartsAt (bytes : List ℕ) (near : ℕ) (map : Body) (start : ℕ) : Type 0 where
  pub body : IsBody bytes map
  pub extension : IsNear map.head.start near start

-- the output is a map that gives the SID minislot m, its start extended near the hearing
abbrev pub Gives : Output → ℕ → ℕ → ℕ → ℕ → ℕ → Type 0
Gives (MapOutput _ _ _ bytes) near ch m sid iuc = (map : Body) × (start : ℕ) × StartsAt bytes near map start × GivesCell map start ch m sid iuc
Gives Nothing near ch m sid iuc = ⊥
Gives (ChannelSet _ _) near ch m sid iuc = ⊥
Gives (Assigned _ _ _ _ _) near ch m sid iuc = ⊥
Gives (Refused _) near ch m sid iuc = ⊥

-- the output assigns the SID to the modem for a lease in which minislot m lies
pub record Leases (id : ℕ) (output : Output) (ch sid m : ℕ) : Type 0 where
  pub first : ℕ
  pub last : ℕ
  pub assigned : output ≡ Assigned id ch sid first last
  pub begun : first ≤ m
  pub not_ended : m ≤ last

-- the hearings, the newest first, have a lease of the SID to the modem in which minislot m lies
abbrev pub WasLeased : ℕ → List Hearing → ℕ → ℕ → ℕ → Type 0
WasLeased id [] ch sid m = ⊥
WasLeased id (h ∷ earlier) ch sid m = Leases id h.output ch sid m ⊎ WasLeased id earlier ch sid m

-- the output assigns the SID to the modem for a lease that ends at minislot m or later
pub record LeasesFrom (id : ℕ) (output : Output) (ch sid m : ℕ) : Type 0 where
  pub first : ℕ
  pub last : ℕ
  pub assigned : output ≡ Assigned id ch sid first last
  pub goes_on : m ≤ last

-- the hearings, the newest first, have a lease of the SID to the modem that ends at minislot m or later
abbrev pub WasLeasedFrom : ℕ → List Hearing → ℕ → ℕ → ℕ → Type 0
WasLeasedFrom id [] ch sid m = ⊥
WasLeasedFrom id (h ∷ earlier) ch sid m = LeasesFrom id h.output ch sid m ⊎ WasLeasedFrom id earlier ch sid m

-- some map that the modem heard as Taken gives the SID minislot m, and a lease that it had heard before covers it; the
-- newest hearing first
abbrev pub HeldBy : ℕ → List Hearing → ℕ → ℕ → ℕ → ℕ → Type 0
HeldBy id [] ch m sid iuc = ⊥
HeldBy id (h ∷ earlier) ch m sid iuc = ((h.answer ≡ Taken) × Gives h.output h.near ch m sid iuc × WasLeased id earlier ch sid m) ⊎ HeldBy id earlier ch m sid iuc

-- the same, whatever the IUC
abbrev pub Held : ℕ → List Hearing → ℕ → ℕ → ℕ → Type 0
Held id hearings ch m sid = (iuc : ℕ) × HeldBy id hearings ch m sid iuc

-- minislot m isn't 2^14 minislots or more before the modem's clock on the channel
abbrev pub IsLate : State → ℕ → ℕ → Type 0
IsLate v ch m = clock_of v.channels ch < m + 2 ^ 14

-- a modem in this state may have heard just this, the newest first: but for what is long past its leases cover what was
-- leased to it and go on as long, and from its clock on what it holds is exactly what was held
pub record HasHeard (v : State) (hearings : List Hearing) : Type 0 where
  pub leases : (ch sid m : ℕ) → IsLate v ch m → (is_own_at v.leases ch sid m ≡ true) ↔ WasLeased v.id hearings ch sid m
  pub lasts : (ch sid m : ℕ) → IsLate v ch m → (is_own_from v.leases ch sid m ≡ true) ↔ WasLeasedFrom v.id hearings ch sid m
  pub holds : (ch m sid iuc : ℕ) → clock_of v.channels ch ≤ m → HasAt v.grants ch m sid iuc ↔ HeldBy v.id hearings ch m sid iuc

-- the SID of a unicast transmission
abbrev pub unicast_sid : Option Sending → Option ℕ
unicast_sid None = None
unicast_sid (Some (Unicast sid)) = Some sid
unicast_sid (Some (Polled sid n)) = Some sid
unicast_sid (Some (Request sid n)) = None
unicast_sid (Some (Ranging sid)) = Some sid
