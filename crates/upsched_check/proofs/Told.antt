-- The tallies of a list of commands, one command after another, and what is told of them.
use Rattle.std.proofs.Common.{◌≡◌, ℕ, ◌+◌, ◌<◌, List, [], ◌∷◌, ◌++◌, length, get_or, Option, Some, None, IfSome, Result}
use Rattle.std.proofs.Common.{Ok, Err, OnOk, ap, ◌∙◌, sym, append_assoc}
use Rattle.std.specs.List.{flat_map}
use Rattle.std.proofs.KnownBytes.{Appends-trans}
use Rattle.std.specs.Io.KnownBytes.{Appends}
use Rattle.std.specs.Ordering.{nat_cmp}
use Rattle.std.specs.BTreeMap.{IsOrdered}
use Rattle.flow_state.specs.Rows.{Rows}
use Rattle.grant_machine.specs.declared.command.Command.{Command}
use Rattle.grant_machine.specs.Steps.{step}
use Rattle.grant_machine.specs.Runs.{outputs_of}
use Rattle.plan_account.specs.declared.deed.Deed.{Deed}
use Rattle.plan_account.specs.declared.flows.Flows.{Flows}
use Rattle.plan_account.specs.Accounts.{Rows as Account, IsAccount}
use Rattle.plan_account.specs.Deeds.{IsDeedOf}
use Rattle.plan_account.specs.FlowsHeld.{HoldsFlows}
use Rattle.map_stats.specs.declared.stats.Stats.{Stats}
use Rattle.map_stats.specs.declared.rows.FlowRow.{FlowRow}
use Rattle.map_stats.specs.declared.tally.Tally.{Tally}
use Rattle.map_stats.specs.Held.{Holds}
use Rattle.script_text.specs.Plan.{IsPlan}
use Rattle.upsched_check.specs.Stats.{AreStats, TellsStats, stats_lines, HoldsBoth, TellsFlows}
use Rattle.upsched_check.proofs.Drawn.{Did, one_done}

-- what the first commands did is in the tables
abbrev pub Counted : List Command → ℕ → Rows → Stats → Flows → Type 0
Counted cs i rows s f = (ds : List Deed) × Did cs i rows ds × Holds ds s × HoldsFlows ds f

pub one_counted : (cs : List Command) (i : ℕ) (b : Command) (m m' : Rows) (s t : Stats) (f g : Flows) (d : Deed) → i < length cs
    → Counted cs i m s f → m' ≡ (step m (get_or cs i b)).rows → IsDeedOf (get_or cs i b) (step m (get_or cs i b)).output d
    → ((ds : List Deed) → Holds ds s → HoldsFlows ds f → Holds (ds ++ d ∷ []) t) → ((ds : List Deed) → HoldsFlows ds f → HoldsFlows (ds ++ d ∷ []) g)
    → Counted cs (i + 1) m' t g
one_counted cs i b m m' s t f g d below (ds, did, holds, flows) rows is adds grows =
    (ds ++ d ∷ [], one_done cs i b m m' ds d below did rows is, adds ds holds flows, grows ds flows)

-- tables in the order of their keys are the tallies, and rows of flows the sums, of one account
pub are_stats : (cs : List Command) (s : Stats) (f : Flows) (rows : List FlowRow) → IsOrdered nat_cmp s.maps → IsOrdered nat_cmp s.uses → IsOrdered nat_cmp s.sids
    → HoldsBoth cs s f → ((ds : List Deed) → HoldsFlows ds f → TellsFlows ds rows)
    → (a : Account) × IsAccount cs (outputs_of cs) a × AreStats a s.maps.entries s.uses.entries s.sids.entries rows
are_stats cs s f rows maps uses sids (ds, are, holds, flows) told =
    let (requests, leases, are_requests, are_leases, sums) = told ds flows in (
      record { deeds = ds; requests = requests; leases = leases },
      record { deeds = are; requests = are_requests; leases = are_leases },
      record {
        maps_are = record { in_order = maps; at = holds.maps };
        uses_are = record { in_order = uses; at = holds.uses };
        sids_are = record { in_order = sids; at = holds.sids };
        flows_are = sums;
      },
    )

-- where the lines of a plan's tallies were printed, the plan's were told
pub plan_told : {T E : Type 0} (r : Result T E) (known old new : Option (List ℕ)) (cs : List Command) (s : Stats) (f : Flows) (rows : List FlowRow) → IfSome known (λ text. IsPlan text cs)
    → HoldsBoth cs s f → ((ds : List Deed) → HoldsFlows ds f → TellsFlows ds rows)
    → IsOrdered nat_cmp s.maps × IsOrdered nat_cmp s.uses × IsOrdered nat_cmp s.sids
    → OnOk r (Appends old new (stats_lines s.maps.entries s.uses.entries s.sids.entries rows)) → OnOk r (TellsStats known old new)
plan_told (Err e) known old new cs s f rows plan held told ordered printed = tt
plan_told (Ok x) None old new cs s f rows plan held told ordered printed = tt
plan_told (Ok x) (Some text) old new cs s f rows plan held told ordered printed =
    let (a, is, are) = are_stats cs s f rows ordered.0 ordered.1 ordered.2 held told in
    (cs, a, s.maps.entries, s.uses.entries, s.sids.entries, rows, plan, is, are, printed)

-- the line of one row more of a table, of which these rows are left
pub row_more : (line : ℕ × Tally → List ℕ) (old mid new : Option (List ℕ)) (whole : List ℕ) (row : ℕ × Tally) (before after : List (ℕ × Tally)) → before ≡ row ∷ after
    → (printed : List ℕ) × Appends old mid printed × (printed ++ flat_map line before ≡ whole) → Appends mid new (line row)
    → (printed : List ℕ) × Appends old new printed × (printed ++ flat_map line after ≡ whole)
row_more line old mid new whole row before after is left grown = (
  left.0 ++ line row,
  Appends-trans old mid new _ _ left.1 grown,
  append_assoc left.0 (line row) (flat_map line after) ∙ ap (λ (rows : List (ℕ × Tally)). left.0 ++ flat_map line rows) (sym is) ∙ left.2,
)
