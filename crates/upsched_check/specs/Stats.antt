-- What is told of the MAPs of a plan.
use Rattle.std.specs.Prelude.{ℕ, ◌/◌, List, [], ◌∷◌, ◌++◌, flat_map, Option, Some, None}
use Rattle.std.specs.Io.KnownBytes.{Appends}
use Rattle.std.specs.Map.{lookup}
use Rattle.std.specs.Ordering.{nat_cmp}
use Rattle.std.specs.BTreeMap.{is_at}
use Rattle.grant_machine.specs.declared.command.Command.{Command}
use Rattle.grant_machine.specs.Runs.{outputs_of}
use Rattle.plan_account.specs.declared.deed.Deed.{Deed}
use Rattle.plan_account.specs.declared.flows.Flows.{Flows}
use Rattle.plan_account.specs.declared.past.LeaseRow.{LeaseRow}
use Rattle.plan_account.specs.declared.past.RequestRow.{RequestRow}
use Rattle.plan_account.specs.Accounts.{Rows, AreLeases, AreRequests, IsAccount}
use Rattle.plan_account.specs.Deeds.{AreDeeds}
use Rattle.plan_account.specs.FlowsHeld.{HoldsFlows}
use Rattle.map_stats.specs.declared.stats.Stats.{Stats}
use Rattle.map_stats.specs.declared.tally.Tally.{Tally}
use Rattle.map_stats.specs.Tallies.{AreTallies}
use Rattle.map_stats.specs.declared.rows.FlowRow.{FlowRow}
use Rattle.map_stats.specs.FlowRows.{AreFlows}
use Rattle.map_stats.specs.FlowTexts.{flow_lines}
use Rattle.map_stats.specs.Held.{Holds}
use Rattle.map_stats.specs.Given.{maps_of, uses_of, sids_of}
use Rattle.map_stats.specs.Texts.{map_text, use_text, sid_text}
use Rattle.script_text.specs.Plan.{IsPlan}

-- a line for each channel with MAPs
abbrev pub map_line : ℕ × Tally → List ℕ
map_line row = map_text row.0 row.1 ++ 10 ∷ []

-- how many minislots the MAPs of a channel have
abbrev pub minislots_in : Option Tally → ℕ
minislots_in None = 0
minislots_in (Some t) = t.minislots

abbrev pub whole_of : List (ℕ × Tally) → ℕ → ℕ
whole_of maps channel = minislots_in (lookup (is_at (nat_cmp channel)) maps)

-- a line for each use on a channel, and one for each use of a SID's lease
abbrev pub use_line : List (ℕ × Tally) → ℕ × Tally → List ℕ
use_line maps row = use_text row.0 row.1 (whole_of maps (row.0 / 16)) ++ 10 ∷ []

abbrev pub sid_line : ℕ × Tally → List ℕ
sid_line row = sid_text row.0 row.1 ++ 10 ∷ []

-- first those of MAPs, then of uses, then of SIDs, and then those of flows
abbrev pub stats_lines : List (ℕ × Tally) → List (ℕ × Tally) → List (ℕ × Tally) → List FlowRow → List ℕ
stats_lines maps uses sids rows = flat_map map_line maps ++ flat_map (use_line maps) uses ++ flat_map sid_line sids ++ flat_map flow_lines rows

-- the tallies of an account: of its MAPs, of the intervals of these by channel and use, and of those by SID and lease
-- too; and the sums over the rows of each lease
pub record AreStats (a : Rows) (maps uses sids : List (ℕ × Tally)) (rows : List FlowRow) : Type 0 where
  pub maps_are : AreTallies (maps_of a.deeds) maps
  pub uses_are : AreTallies (uses_of a.deeds) uses
  pub sids_are : AreTallies (sids_of a.deeds) sids
  pub flows_are : AreFlows a.requests a.leases rows

-- the tables hold what these commands did
abbrev pub HoldsBoth : List Command → Stats → Flows → Type 0
HoldsBoth cs s f = (ds : List Deed) × AreDeeds cs (outputs_of cs) ds × Holds ds s × HoldsFlows ds f

-- rows of flows are the sums over the rows of each lease of deeds
abbrev pub TellsFlows : List Deed → List FlowRow → Type 0
TellsFlows ds rows = (requests : List RequestRow) × (leases : List LeaseRow) × AreRequests ds requests × AreLeases ds leases × AreFlows requests leases rows

-- what is printed is the lines of the tallies of the account of the plan's commands, where the plan's text is known
abbrev pub TellsStats : Option (List ℕ) → Option (List ℕ) → Option (List ℕ) → Type 0
TellsStats None old new = Unit {0}
TellsStats (Some text) old new =
    (cs : List Command) × (a : Rows) × (maps : List (ℕ × Tally)) × (uses : List (ℕ × Tally)) × (sids : List (ℕ × Tally)) × (rows : List FlowRow)
    × IsPlan text cs × IsAccount cs (outputs_of cs) a × AreStats a maps uses sids rows × Appends old new (stats_lines maps uses sids rows)
