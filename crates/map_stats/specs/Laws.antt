-- The tallies of `stats` are sums over the rows that `draw` draws.
use Rattle.std.specs.Prelude.{◌≡◌, ℕ, ◌-◌, ◌==◌, List, [], ◌∷◌, length, flat_map, Some, sum_by}
use Rattle.std.specs.List.{filter}
use Rattle.plan_account.specs.declared.past.Fate.{Fate}
use Rattle.plan_account.specs.declared.past.Fate.TheVariants as fates
use Rattle.plan_account.specs.declared.past.LeaseRow.{LeaseRow}
use Rattle.plan_account.specs.declared.past.RequestRow.{RequestRow}
use Rattle.map_stats.specs.Sums.{Sums, lease_asked, lease_told, sums_at}

-- the rows of a lease
abbrev pub requests_of : ℕ → List RequestRow → List RequestRow
requests_of q rs = filter (λ r. lease_asked r == q) rs

abbrev pub leases_of : ℕ → List LeaseRow → List LeaseRow
leases_of q ls = filter (λ l. lease_told l == q) ls

-- the delay of a request, if it was granted
abbrev pub delay_in : ℕ → Fate → List ℕ
delay_in sent (fates.Waits why) = []
delay_in sent fates.Gone = []
delay_in sent (fates.Granted map start) = (start - sent) ∷ []

abbrev pub delay_of : RequestRow → List ℕ
delay_of r = delay_in r.sent r.fate

abbrev pub windows_in : LeaseRow → ℕ
windows_in l = l.windows

abbrev pub missed_in : LeaseRow → ℕ
missed_in l = l.missed

-- so many requests as there are rows of the lease, the delays of those that were granted, and all its windows
pub record IsSumOf (rs : List RequestRow) (ls : List LeaseRow) (s : Sums) : Type 0 where
  pub asked : s.asked ≡ length rs
  pub delays : s.delays ≡ flat_map delay_of rs
  pub windows : s.windows ≡ sum_by windows_in ls
  pub missed : s.missed ≡ sum_by missed_in ls

abbrev pub SumsAreOfRows : Type 0
SumsAreOfRows = (rs : List RequestRow) (ls : List LeaseRow) (q : ℕ) (s : Sums) → sums_at rs ls q ≡ Some s → IsSumOf (requests_of q rs) (leases_of q ls) s
