-- What holds of intervals of station and of initial maintenance, over every list of commands.
use Rattle.std.specs.Prelude.{◌≡◌, ℕ, ◌+◌, ◌-◌, ◌<◌, ◌≤◌, List, Some, slice_get}
use Rattle.std.specs.List.{AllZip}
use Rattle.std.specs.List.Sorted.{IsStrictlyIncreasing}
use Rattle.map_body.specs.declared.element.Element.{Element}
use Rattle.map_body.specs.Iucs as iucs
use Rattle.map_body.specs.Sids.{everybody}
use Rattle.map_body.specs.Body.{Body}
use Rattle.map_body.specs.Layout.{IsBody}
use Rattle.map_body.specs.Cell.{IsCell}
use Rattle.flow_state.specs.declared.flow.FlowKind.{FlowKind}
use Rattle.flow_state.specs.declared.flow.FlowKind.TheVariants.{BestEffort, Ugs, Poll, Station, Initial}
use Rattle.grant_machine.specs.declared.command.Command.{Command}
use Rattle.grant_machine_parts.specs.declared.placing.Cause.TheVariants.{Window}
use Rattle.grant_machine.specs.Runs.{outputs_of, Grant, grants_of}
use Rattle.grant_machine.specs.Owner.{Owns, IsGiven}
use Rattle.grant_machine.specs.Laws.{LeasedSid, IsAddedAt, IsDueGrant, IsMapAt, IsOfFlow, grants_to}

-- the grants under a lease, in order, are of this size and begin within the jitter of due times whose numbers rise
abbrev pub AreDueUnder : List Command → LeasedSid → FlowKind → (size jitter : ℕ) → Type 0
AreDueUnder cs lease kind size jitter = (numbers : List ℕ) × IsStrictlyIncreasing numbers × AllZip (IsDueGrant kind size jitter) (grants_to cs lease) numbers

-- so are those of a flow of station maintenance, and of a flow of initial maintenance
pub record MaintenanceIsDue : Type 0 where
  pub station : (cs : List Command) (k : ℕ) (lease : LeasedSid) (size interval jitter base : ℕ)
      → IsAddedAt cs k lease (Station size interval jitter base) → AreDueUnder cs lease (Station size interval jitter base) size jitter
  pub initial : (cs : List Command) (k : ℕ) (lease : LeasedSid) (size interval jitter base : ℕ)
      → IsAddedAt cs k lease (Initial size interval jitter base) → AreDueUnder cs lease (Initial size interval jitter base) size jitter

-- what a flow of this kind is given is station maintenance, or initial maintenance
abbrev pub IsStation : FlowKind → Type 0
IsStation (BestEffort priority) = ⊥
IsStation (Ugs size interval jitter base) = ⊥
IsStation (Poll interval jitter base) = ⊥
IsStation (Station size interval jitter base) = Unit {0}
IsStation (Initial size interval jitter base) = ⊥

abbrev pub IsInitial : FlowKind → Type 0
IsInitial (BestEffort priority) = ⊥
IsInitial (Ugs size interval jitter base) = ⊥
IsInitial (Poll interval jitter base) = ⊥
IsInitial (Station size interval jitter base) = ⊥
IsInitial (Initial size interval jitter base) = Unit {0}

-- grant number k is the channel's, and minislot m lies in it
pub record IsHeldBy (cs : List Command) (k : ℕ) (g : Grant) (ch m : ℕ) : Type 0 where
  pub given : slice_get (grants_of cs) k ≡ Some g
  pub channel : g.channel ≡ ch
  pub begun : g.start ≤ m
  pub not_ended : m < g.start + g.size

-- the minislot lies in a grant to the SID, or to any, at a due time of a flow of such a kind
pub record IsOfKind (cs : List Command) (ch m : ℕ) (IsWanted : FlowKind → Type 0) (IsItsSid : ℕ → Type 0) : Type 0 where
  pub place : ℕ
  pub grant : Grant
  pub held : IsHeldBy cs place grant ch m
  pub number : ℕ
  pub cause : grant.cause ≡ Window number
  pub served : IsOfFlow cs grant number
  pub kind : IsWanted served.kind
  pub sid_is : IsItsSid grant.sid

-- what a MAP tells of a minislot before its Null: station maintenance is in a grant of such a flow to its SID, initial
-- maintenance is everybody's, in a grant of such a flow, and what is everybody's for requests is in no grant
pub record IsToldMaintenance (cs : List Command) (ch m : ℕ) (e : Element) : Type 0 where
  pub station : e.iuc ≡ iucs.station_maintenance → IsOfKind cs ch m IsStation (λ sid. sid ≡ e.sid)
  pub initial : e.iuc ≡ iucs.initial_maintenance → (e.sid ≡ everybody) × IsOfKind cs ch m IsInitial (λ sid. Unit {0})
  pub free : e.sid ≡ everybody → e.iuc ≡ iucs.request → (k : ℕ) (g : Grant) → ¬ IsHeldBy cs k g ch m

-- so is each cell of a MAP
abbrev pub MaintenanceIsTold : Type 0
MaintenanceIsTold =
    (cs : List Command) (k ch start len m : ℕ) (bytes : List ℕ) (map : Body) (e : Element)
    → IsMapAt cs k ch start len bytes → IsBody bytes map
    → start ≤ m → IsCell map (m - start) e → IsToldMaintenance cs ch m e

-- a minislot that some MAP gives to everybody has no owner
abbrev pub OpeningsHaveNoOwner : Type 0
OpeningsHaveNoOwner =
    (cs : List Command) (ch m modem : ℕ) (e : Element)
    → IsGiven (outputs_of cs) ch m e → e.sid ≡ everybody → ¬ Owns (outputs_of cs) ch m modem
