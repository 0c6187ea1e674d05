-- What is always true of a stored table.
use Rattle.std.specs.Prelude.{◌≡◌, ℕ, ◌≤◌, nat_eq, nat_lt, Bool, true, false, ◌&&◌, List, [], ◌∷◌, ◌++◌, length, Some}
use Rattle.std.specs.List.{AllByRecursion}
use Rattle.std.specs.Option.{option_map_or}
use Rattle.std.specs.Map.{lookup}
use Rattle.flow_state.specs.declared.flow.Flow.{Flow}
use Rattle.flow_state.specs.declared.table.ChannelTable.TheInside.{Inside}
use Rattle.flow_state.specs.declared.dues.Dues.{Dues}
use Rattle.flow_state.specs.Limits.{due_time, due_index, is_timed, is_good_kind}
use Rattle.flow_state.specs.StoredDues.{IsDueFrom}
use Rattle.flow_state.specs.Sound.{IsSound, IsLeasedFlow}
use Rattle.flow_state.specs.Rows.{Table, FlowRow, Lease}
use Rattle.flow_state.specs.View.{flow_view, table_view}

-- a flow stands under its SID, and its next due time is one of its due times
-- each timed flow is due no earlier than what is kept of its SID says
abbrev pub AreNoted : Dues → List (ℕ × Flow) → Type 0
AreNoted ds es = AllByRecursion (λ e. is_timed e.1.kind ≡ true → IsDueFrom ds e.0 e.1.due) es

-- a stored flow for which something comes by itself, next before a time
abbrev pub is_due_stored : ℕ → Flow → Bool
is_due_stored end f = is_timed f.kind && nat_lt f.due end

pub record IsStoredFlow (e : ℕ × Flow) : Type 0 where
  pub key : e.1.lease.sid ≡ e.0
  pub due : e.1.due ≡ due_time e.1.kind (due_index e.1.kind e.1.due)

-- no lease of these flows ends before this
abbrev pub EndFrom : ℕ → List (ℕ × Flow) → Type 0
EndFrom first es = AllByRecursion (λ e. first ≤ e.1.lease.last) es

-- flows stand under the leases of their SIDs, and each SID that was given has a place for one
pub record IsStored (a : Inside) : Type 0 where
  pub flows : AllByRecursion IsStoredFlow a.flows.entries
  pub enough : length a.leases ≤ a.flows.sids
  pub sound : IsSound (table_view a)
  pub ends : EndFrom a.first_end a.flows.entries
  pub noted : AreNoted a.dues a.flows.entries

-- a stored flow whose last accepted request was sent at this time
abbrev pub with_sent : Flow → ℕ → Flow
with_sent f sent = record f { last_sent = Some sent }

-- a stored flow that is due next at this time
abbrev pub with_next_due : Flow → ℕ → Flow
with_next_due f due = record f { due = due }

-- a stored flow of this SID has a lease that ends before this time
abbrev pub is_ended_in : List (ℕ × Flow) → (end sid : ℕ) → Bool
is_ended_in es end sid = option_map_or (λ f. nat_lt f.lease.last end) (lookup (nat_eq sid) es) false

-- a flow that may be put into the table: of a good kind, due next at one of its due times, under the lease of its SID
pub record MayBePut (t : Table) (f : Flow) : Type 0 where
  pub good : is_good_kind f.kind ≡ true
  pub due : f.due ≡ due_time f.kind (due_index f.kind f.due)
  pub leased : IsLeasedFlow t (flow_view f)

-- the table with a lease behind the others, and with a flow behind the others
abbrev pub with_lease : Table → Lease → Table
with_lease t l = record t { leases = t.leases ++ l ∷ [] }

abbrev pub with_flow_row : Table → FlowRow → Table
with_flow_row t f = record t { flows = t.flows ++ f ∷ [] }
