-- What holds of every channel's table.
use Rattle.std.specs.Prelude.{◌≡◌, ℕ, ◌<◌, ◌≤◌, List, [], ◌∷◌, map, length, true, Some}
use Rattle.std.specs.List.{find, AllByRecursion, range_with_len}
use Rattle.flow_state.specs.Limits.{is_good_kind, last_sid, most_waiting}
use Rattle.flow_state.specs.Rows.{Table, FlowRow, lease_in, is_of_sid}

-- the numbers rise, from above low to high at most
abbrev pub Rise : ℕ → List ℕ → ℕ → Type 0
Rise low [] high = Unit {0}
Rise low (x ∷ xs) high = (low < x) × (x ≤ high) × Rise x xs high

-- the flow stands under the latest lease of its SID, which isn't over
pub record IsLeasedFlow (t : Table) (f : FlowRow) : Type 0 where
  pub lease : find (is_of_sid f.sid) t.leases ≡ Some (lease_in f)
  pub goes_on : t.row.next_start ≤ f.last

-- SIDs are given in order from 1, flows go by SID, under their leases, and have kinds within the limits
pub record IsSound (t : Table) : Type 0 where
  pub given : map (λ l. l.sid) t.leases ≡ range_with_len 1 (length t.leases)
  pub few : length t.leases ≤ last_sid
  pub rising : Rise 0 (map (λ f. f.sid) t.flows) (length t.leases)
  pub kinds : AllByRecursion (λ f. is_good_kind f.kind ≡ true) t.flows
  pub leased : AllByRecursion (IsLeasedFlow t) t.flows
  pub room : length t.waiting ≤ most_waiting
