-- What has happened to the flow of a SID, one happening after another.
use Rattle.std.specs.Prelude.{ℕ, ◌+◌, ◌/◌, ◌^◌, ◌==◌, ◌&&◌, nat_le, min, Bool, false, if◌then◌else◌, List, [], ◌∷◌}
use Rattle.std.specs.Prelude.{◌++◌, fold, Option, Some, None, unwrap_or}
use Rattle.plan_account.specs.declared.happening.Happening.{Happening}
use Rattle.plan_account.specs.declared.happening.Happening.TheVariants as happens
use Rattle.plan_account.specs.declared.past.Fate.{Fate}
use Rattle.plan_account.specs.declared.past.Fate.TheVariants.{Waits, Gone, Granted}
use Rattle.plan_account.specs.declared.past.LeaseRow.{LeaseRow}
use Rattle.plan_account.specs.declared.past.RequestRow.{RequestRow}
use Rattle.plan_account.specs.declared.past.Told.{Told}
use Rattle.plan_account.specs.declared.reach.Ask.{Ask}
use Rattle.plan_account.specs.declared.reach.Lease.{Lease}
use Rattle.plan_account.specs.declared.reach.Left.{Left}
use Rattle.plan_account.specs.declared.reach.Reach.{Reach}
use Rattle.plan_account.specs.declared.reach.Term.{Term}
use Rattle.plan_account.specs.Whys.{why_in}
use Rattle.plan_account.specs.Windows.{windows_of, count_past, count_missed}

-- its key; the term of its last lease, and what that is known by; the lease, while its flow isn't over; the request
-- that waits, and the last MAP that told so; the starts of grants that no request asked for, since the lease; and the
-- rows of requests and of leases that are over
pub record Past : Type 0 where
  pub key : ℕ
  pub term : Option Term
  pub since : ℕ
  pub lease : Option Lease
  pub ask : Option Ask
  pub told : Option Told
  pub starts : List ℕ
  pub requests : List RequestRow
  pub leases : List LeaseRow

abbrev pub no_past : ℕ → Past
no_past key = record { key = key; term = None; since = 0; lease = None; ask = None; told = None; starts = []; requests = []; leases = [] }

-- ---- rows

abbrev pub request_row : (key since : ℕ) → Ask → Option Told → Fate → RequestRow
request_row key since a told fate = record { key = key; since = since; command = a.command; n = a.n; sent = a.sent; told = told; fate = fate }

-- the row of a lease whose flow goes until then, with the windows that passed before, and those without a grant
abbrev pub lease_row : (key since : ℕ) → Lease → (until : ℕ) → (starts : List ℕ) → LeaseRow
lease_row key since l until starts = record {
  key = key;
  since = since;
  lease = l;
  until = until;
  windows = count_past (windows_of l.kind) until;
  missed = count_missed (windows_of l.kind) until starts;
}

-- until when a flow goes: to the end of the channel's MAPs, or of its lease
abbrev pub until : Lease → (end : ℕ) → ℕ
until l end = min end (l.term.last + 1)

-- ---- what changes

-- the request that waits, if one does, has this fate
abbrev pub asked_on : Option Ask → Past → Fate → Past
asked_on None p fate = p
asked_on (Some a) p fate = record p { ask = None; told = None; requests = p.requests ++ request_row p.key p.since a p.told fate ∷ [] }

abbrev pub answered : Past → Fate → Past
answered p fate = asked_on p.ask p fate

-- the lease, if its flow isn't over, ends where the channel's MAPs end here
abbrev pub closed_on : Option Lease → Past → (end : ℕ) → Past
closed_on None p end = p
closed_on (Some l) p end = record p { lease = None; starts = []; leases = p.leases ++ lease_row p.key p.since l (until l end) p.starts ∷ [] }

abbrev pub closed : Past → (end : ℕ) → Past
closed p end = closed_on p.lease p end

-- the flow is over, with its request
abbrev pub settled : Past → (end : ℕ) → Past
settled p end = closed (answered p Gone) end

abbrev pub is_term : Option Term → Term → Bool
is_term None t = false
is_term (Some o) t = (o.first == t.first) && (o.last == t.last)

-- a SID's first lease is known by 0, a later one by its first minislot
abbrev pub since_of : (before : Option Term) → Term → ℕ
since_of None t = 0
since_of (Some before) t = t.first

-- a lease that is told again changes nothing
abbrev pub with_lease : Past → (end : ℕ) → Lease → Past
with_lease p end l = if is_term p.term l.term then p else record (settled p end) { term = Some l.term; since = since_of p.term l.term; lease = Some l }

-- a request is the one that waits: one that did is gone
abbrev pub with_ask : Past → Ask → Past
with_ask p a = record (answered p Gone) { ask = Some a }

-- a grant that no request asked for
abbrev pub started : Option Lease → Past → ℕ → Past
started None p at = p
started (Some l) p at = record p { starts = p.starts ++ at ∷ [] }

-- a grant is that of the request that waits, where one does and the use may answer it
abbrev pub given_on : Option Ask → Past → (map at : ℕ) → Past
given_on None p map at = started p.lease p at
given_on (Some a) p map at = answered p (Granted map at)

abbrev pub with_given : Past → (map at : ℕ) → Bool → Past
with_given p map at answers = if answers then given_on p.ask p map at else started p.lease p at

-- a MAP has the request wait
abbrev pub waits_on : Option Term → Option Ask → Past → Reach → Past
waits_on None a p r = p
waits_on (Some t) None p r = p
waits_on (Some t) (Some a) p r = record p { told = Some (record { start = r.start; why = why_in r t.last a.n a.maps }) }

abbrev pub past_step : Reach → Past → Happening → Past
past_step r p (happens.Leased command modem first last kind) =
    with_lease p r.end (record { command = command; modem = modem; term = record { first = first; last = last }; kind = kind })
past_step r p (happens.Asked command n sent) = with_ask p (record { command = command; n = n; sent = sent; maps = r.maps })
past_step r p happens.Dropped = settled p r.end
past_step r p (happens.Given at answers) = with_given p (r.maps + 1) at answers
past_step r p happens.Waits = waits_on p.term p.ask p r
past_step r p (happens.Mapped start end left) = p

-- ---- where a plan ends

-- a request waits while its lease isn't over: its last minislot isn't before the channel's next MAP
abbrev pub fate_on : Option Term → Option Ask → Reach → Fate
fate_on None a r = Gone
fate_on (Some t) None r = Gone
fate_on (Some t) (Some a) r = if nat_le r.end t.last then Waits (why_in r t.last a.n a.maps) else Gone

-- the rows of its requests and of its leases, where the channel's MAPs are these
abbrev pub requests_at : Reach → Past → List RequestRow
requests_at r p = (answered p (fate_on p.term p.ask r)).requests

abbrev pub leases_at : Reach → Past → List LeaseRow
leases_at r p = (closed p r.end).leases

-- ---- by key

-- a flow with its channel's MAPs
pub record At : Type 0 where
  pub reach : Reach
  pub past : Option Past

abbrev pub no_reach : Reach
no_reach = record { maps = 0; start = 0; end = 0; left = record { gap = 0; placed = 0; keep = 0 } }

abbrev pub nothing : At
nothing = record { reach = no_reach; past = None }

-- one more happening: to a flow by its key, to all of a channel by the channel
abbrev pub flow_at_step : ℕ → At → ℕ → Happening → At
flow_at_step q s key h = if key == q then record s { past = Some (past_step s.reach (unwrap_or s.past (no_past key)) h) } else s

abbrev pub reach_step : ℕ → Reach → ℕ → (start end : ℕ) → Left → Reach
reach_step ch r key start end left = if key / 2 ^ 16 == ch then record { maps = r.maps + 1; start = start; end = end; left = left } else r

abbrev pub at_step : ℕ → At → ℕ × Happening → At
at_step q s (key, happens.Leased command modem first last kind) = flow_at_step q s key (happens.Leased command modem first last kind)
at_step q s (key, happens.Asked command n sent) = flow_at_step q s key (happens.Asked command n sent)
at_step q s (key, happens.Dropped) = flow_at_step q s key happens.Dropped
at_step q s (key, happens.Given at answers) = flow_at_step q s key (happens.Given at answers)
at_step q s (key, happens.Waits) = flow_at_step q s key happens.Waits
at_step q s (key, happens.Mapped start end left) = record s { reach = reach_step (q / 2 ^ 16) s.reach key start end left }

-- what has happened at a key
abbrev pub at_key : List (ℕ × Happening) → ℕ → At
at_key told q = fold (at_step q) nothing told
