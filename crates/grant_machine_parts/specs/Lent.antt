-- Flows as they are lent and what is kept of them, and which service gives them something.
use Rattle.std.specs.Prelude.{◌≡◌, ℕ, ◌≤◌, true, Option, Some, None}
use Rattle.map_body.specs.Iucs as iucs
use Rattle.flow_state.specs.declared.channel.Channel.{Channel}
use Rattle.flow_state.specs.declared.flow.Flow.{Flow}
use Rattle.flow_state.specs.declared.flow.FlowKind.{FlowKind}
use Rattle.flow_state.specs.declared.flow.FlowKind.TheVariants.{BestEffort, Ugs, Poll, Station, Initial}
use Rattle.flow_state.specs.Limits.{last_sid, is_good_kind, due_time, due_index}
use Rattle.flow_state.specs.Rows.{FlowRow}
use Rattle.grant_machine_parts.specs.declared.services.Service.{Service}
use Rattle.grant_machine_parts.specs.declared.services.Service.TheVariants.{Grants, Polls, Maintenance}
use Rattle.grant_machine_parts.specs.Cutting.{Periodic, unsolicited_iuc, poll_iuc, grants_of_kind, polls_of_kind}
use Rattle.grant_machine_parts.specs.Cutting.{maintenance_of_kind}
use Rattle.grant_machine_parts.specs.Filling.{last_due}
use Rattle.grant_machine_parts.specs.Ranks.{Ranked}

-- a flow within the limits, at one of its due times
pub record IsLent (f : Flow) : Type 0 where
  pub sid : f.lease.sid ≤ last_sid
  pub kind : is_good_kind f.kind ≡ true
  pub due : f.due ≡ due_time f.kind (due_index f.kind f.due)
  pub early : f.due ≤ last_due

-- the use of what a service gives flows of a kind, if anything
abbrev pub use_given : Service → Channel → FlowKind → Option ℕ
use_given Grants c (Ugs size interval jitter base) = Some (unsolicited_iuc c size)
use_given Polls c (Poll interval jitter base) = Some poll_iuc
use_given Maintenance c (Station size interval jitter base) = Some iucs.station_maintenance
use_given Maintenance c (Initial size interval jitter base) = Some iucs.initial_maintenance
use_given service c kind = None

-- how many minislots are due at a time for flows of a kind, the interval, the jitter and the base of due times
abbrev pub schedule_of : FlowKind → Option (ℕ × ℕ × ℕ × ℕ)
schedule_of (BestEffort priority) = None
schedule_of (Ugs size interval jitter base) = Some (size, interval, jitter, base)
schedule_of (Poll interval jitter base) = Some (1, interval, jitter, base)
schedule_of (Station size interval jitter base) = Some (size, interval, jitter, base)
schedule_of (Initial size interval jitter base) = Some (size, interval, jitter, base)

-- what a service gives a flow of this kind, if anything
abbrev pub given : Service → Channel → (sid last : ℕ) → FlowKind → Option Periodic
given Grants c sid last kind = grants_of_kind c sid last kind
given Polls c sid last kind = polls_of_kind c sid last kind
given Maintenance c sid last kind = maintenance_of_kind c sid last kind

abbrev pub given_to : Service → Channel → FlowRow → Option Periodic
given_to service c f = given service c f.sid f.last f.kind

-- a request of a unicast SID
abbrev pub IsUnicast : Ranked → Type 0
IsUnicast r = r.request.sid ≤ last_sid
