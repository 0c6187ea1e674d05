-- One account of a plan: what its commands did, its requests with what became of each, and its leases.
use Rattle.std.specs.Prelude.{◌≡◌, ℕ, List, flat_map, Option, Some, None}
use Rattle.std.specs.List.Sorted.{IsNonDecreasingBy, IsPermutation, IsStrictlySortedBy}
use Rattle.std.specs.Map.{lookup, keys_of}
use Rattle.std.specs.Ordering.{nat_cmp}
use Rattle.std.specs.BTreeMap.{is_at}
use Rattle.grant_machine.specs.declared.command.Command.{Command}
use Rattle.grant_machine.specs.declared.output.Output.{Output}
use Rattle.plan_account.specs.declared.deed.Deed.{Deed}
use Rattle.plan_account.specs.declared.flows.Flows.{Flows}
use Rattle.plan_account.specs.declared.happening.Happening.{Happening}
use Rattle.plan_account.specs.declared.past.Fate.{Fate}
use Rattle.plan_account.specs.declared.past.Fate.TheVariants.{Waits, Gone, Granted}
use Rattle.plan_account.specs.declared.past.LeaseRow.{LeaseRow}
use Rattle.plan_account.specs.declared.past.RequestRow.{RequestRow}
use Rattle.plan_account.specs.declared.past.Told.{Told}
use Rattle.plan_account.specs.declared.why.Why.{Why}
use Rattle.plan_account.specs.Deeds.{AreDeeds}
use Rattle.plan_account.specs.FlowsHeld.{at_in}
use Rattle.plan_account.specs.Happenings.{told_by}
use Rattle.plan_account.specs.Pasts.{Past, at_key, requests_at, leases_at}

-- what has happened to each flow, in the order of their keys
pub record ArePasts (told : List (ℕ × Happening)) (pasts : List (ℕ × Past)) : Type 0 where
  pub in_order : IsStrictlySortedBy nat_cmp (keys_of pasts)
  pub at : (q : ℕ) → lookup (is_at (nat_cmp q)) pasts ≡ (at_key told q).past

-- the rows of a flow, with the MAPs that its channel has: by what is told, and by the tables
abbrev pub requests_by : List (ℕ × Happening) → ℕ × Past → List RequestRow
requests_by told (key, p) = requests_at (at_key told key).reach p

abbrev pub leases_by : List (ℕ × Happening) → ℕ × Past → List LeaseRow
leases_by told (key, p) = leases_at (at_key told key).reach p

abbrev pub requests_in : Flows → ℕ × Past → List RequestRow
requests_in s (key, p) = requests_at (at_in s key).reach p

abbrev pub leases_in : Flows → ℕ × Past → List LeaseRow
leases_in s (key, p) = leases_at (at_in s key).reach p

-- which command a row is of
abbrev pub request_command : RequestRow → ℕ
request_command row = row.command

abbrev pub lease_command : LeaseRow → ℕ
lease_command row = row.lease.command

-- the rows of all requests that were accepted, in the order of their commands
pub record AreRequests (ds : List Deed) (rows : List RequestRow) : Type 0 where
  pub pasts : List (ℕ × Past)
  pub are : ArePasts (told_by ds) pasts
  pub same : IsPermutation (flat_map (requests_by (told_by ds)) pasts) rows
  pub in_order : IsNonDecreasingBy request_command rows

-- the rows of all leases, likewise
pub record AreLeases (ds : List Deed) (rows : List LeaseRow) : Type 0 where
  pub pasts : List (ℕ × Past)
  pub are : ArePasts (told_by ds) pasts
  pub same : IsPermutation (flat_map (leases_by (told_by ds)) pasts) rows
  pub in_order : IsNonDecreasingBy lease_command rows

-- the rows of an account: what each command did, the requests, and the leases
pub record Rows : Type 0 where
  pub deeds : List Deed
  pub requests : List RequestRow
  pub leases : List LeaseRow

-- they are those of commands with these outputs
pub record IsAccount (cs : List Command) (os : List Output) (a : Rows) : Type 0 where
  pub deeds : AreDeeds cs os a.deeds
  pub requests : AreRequests a.deeds a.requests
  pub leases : AreLeases a.deeds a.leases

-- ---- why a request waits, as it is told

abbrev pub told_why : Option Told → Option Why
told_why None = None
told_why (Some t) = Some t.why

-- why it waits where the plan ends; of one that waits no more, why the last MAP had it wait that did
abbrev pub why_last : Option Told → Fate → Option Why
why_last told (Waits why) = Some why
why_last told Gone = told_why told
why_last told (Granted map start) = told_why told
