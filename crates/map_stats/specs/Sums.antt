-- The sums over the rows of requests and of leases, by lease.
use Rattle.std.specs.Prelude.{ℕ, ◌+◌, ◌-◌, ◌*◌, ◌^◌, ◌==◌, if◌then◌else◌, List, [], ◌∷◌, ◌++◌, fold, Option, Some, None}
use Rattle.std.specs.Prelude.{unwrap_or}
use Rattle.plan_account.specs.declared.past.Fate.{Fate}
use Rattle.plan_account.specs.declared.past.Fate.TheVariants as fates
use Rattle.plan_account.specs.declared.past.LeaseRow.{LeaseRow}
use Rattle.plan_account.specs.declared.past.RequestRow.{RequestRow}
use Rattle.map_stats.specs.declared.summary.Waits.{Waits}

-- how many requests were accepted, the delay of each that was granted, from its sending to its grant's start, the one
-- that waits, and the windows that passed, and those missed
pub record Sums : Type 0 where
  pub asked : ℕ
  pub delays : List ℕ
  pub waits : Option Waits
  pub windows : ℕ
  pub missed : ℕ

abbrev pub no_sums : Sums
no_sums = record { asked = 0; delays = []; waits = None; windows = 0; missed = 0 }

-- with a request of this fate more
abbrev pub with_fate : Sums → RequestRow → Fate → Sums
with_fate s r (fates.Waits why) = record s { asked = s.asked + 1; waits = Some (record { n = r.n; sent = r.sent; why = why }) }
with_fate s r fates.Gone = record s { asked = s.asked + 1 }
with_fate s r (fates.Granted map start) = record s { asked = s.asked + 1; delays = s.delays ++ (start - r.sent) ∷ [] }

abbrev pub with_request : Sums → RequestRow → Sums
with_request s r = with_fate s r r.fate

-- with a lease more
abbrev pub with_lease : Sums → LeaseRow → Sums
with_lease s l = record s { windows = s.windows + l.windows; missed = s.missed + l.missed }

-- a lease of the SID of a key as one number
abbrev pub lease_key : (key since : ℕ) → ℕ
lease_key key since = key * 2 ^ 64 + since

-- under which lease a request was accepted, and which lease a row is of
abbrev pub lease_asked : RequestRow → ℕ
lease_asked r = lease_key r.key r.since

abbrev pub lease_told : LeaseRow → ℕ
lease_told l = lease_key l.key l.since

-- of a lease, with a row more
abbrev pub request_step : ℕ → Option Sums → RequestRow → Option Sums
request_step q s r = if lease_asked r == q then Some (with_request (unwrap_or s no_sums) r) else s

abbrev pub lease_step : ℕ → Option Sums → LeaseRow → Option Sums
lease_step q s l = if lease_told l == q then Some (with_lease (unwrap_or s no_sums) l) else s

-- over all rows of a lease, if it has one
abbrev pub sums_at : List RequestRow → List LeaseRow → ℕ → Option Sums
sums_at requests leases q = fold (lease_step q) (fold (request_step q) None requests) leases
