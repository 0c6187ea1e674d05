-- What is told of each lease of a plan: sums over the rows of its requests and its leases.
use Rattle.std.specs.Prelude.{◌≡◌, ℕ, List}
use Rattle.std.specs.List.{AllZip}
use Rattle.std.specs.List.Sorted.{IsStrictlySortedBy}
use Rattle.std.specs.Map.{lookup, keys_of}
use Rattle.std.specs.Ordering.{nat_cmp}
use Rattle.std.specs.BTreeMap.{is_at}
use Rattle.plan_account.specs.declared.past.LeaseRow.{LeaseRow}
use Rattle.plan_account.specs.declared.past.RequestRow.{RequestRow}
use Rattle.map_stats.specs.declared.rows.FlowRow.{FlowRow}
use Rattle.map_stats.specs.Sums.{Sums, sums_at}
use Rattle.map_stats.specs.Summaries.{IsSummary}

-- the row of a lease tells of its sums
abbrev pub IsFlowRow : ℕ × Sums → FlowRow → Type 0
IsFlowRow (q, p) row = (row.lease ≡ q) × IsSummary p row.summary

-- a row for each lease with a row, by channel, SID and lease
pub record AreFlows (requests : List RequestRow) (leases : List LeaseRow) (rows : List FlowRow) : Type 0 where
  pub sums : List (ℕ × Sums)
  pub in_order : IsStrictlySortedBy nat_cmp (keys_of sums)
  pub at : (q : ℕ) → lookup (is_at (nat_cmp q)) sums ≡ sums_at requests leases q
  pub rows_are : AllZip IsFlowRow sums rows
