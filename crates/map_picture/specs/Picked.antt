-- Which rows a channel has: a row a lease, a row a request, a row a MAP.
use Rattle.std.specs.Prelude.{ℕ, ◌+◌, ◌/◌, ◌%◌, ◌^◌, ◌==◌, ◌&&◌, nat_le, Bool, true, false, if◌then◌else◌, List, []}
use Rattle.std.specs.Prelude.{◌∷◌, ◌++◌}
use Rattle.std.specs.List.{filter}
use Rattle.flow_state.specs.declared.flow.FlowKind.{FlowKind}
use Rattle.flow_state.specs.declared.flow.FlowKind.TheVariants.{BestEffort, Ugs, Poll, Station, Initial}
use Rattle.map_body.specs.declared.interval.Interval.{Interval}
use Rattle.plan_account.specs.declared.deed.Deed.{Deed}
use Rattle.plan_account.specs.declared.deed.Deed.TheVariants as deeds
use Rattle.plan_account.specs.declared.past.LeaseRow.{LeaseRow}
use Rattle.plan_account.specs.declared.past.RequestRow.{RequestRow}

-- the key is of a SID of the channel
abbrev pub is_on : (ch key : ℕ) → Bool
is_on ch key = key / 2 ^ 16 == ch

-- a flow has a row, unless what it opens is everybody's
abbrev pub has_row : FlowKind → Bool
has_row (BestEffort priority) = true
has_row (Ugs size interval jitter base) = true
has_row (Poll interval jitter base) = true
has_row (Station size interval jitter base) = true
has_row (Initial size interval jitter base) = false

abbrev pub leases_on : ℕ → List LeaseRow → List LeaseRow
leases_on ch ls = filter (λ l. is_on ch l.key && has_row l.lease.kind) ls

abbrev pub requests_on : ℕ → List RequestRow → List RequestRow
requests_on ch rs = filter (λ r. is_on ch r.key) rs

-- an interval is the SID's of the lease, and begins in it, in a MAP that begins then
abbrev pub is_granted : LeaseRow → (start : ℕ) → Interval → Bool
is_granted l start i = (i.sid == l.key % 2 ^ 16) && (nat_le l.lease.term.first (start + i.from) && nat_le (start + i.from) l.lease.term.last)

-- a deed is a MAP of the channel
abbrev pub is_map : ℕ → Deed → Bool
is_map ch (deeds.Map c start len keep map) = c == ch
is_map ch (deeds.Channel c) = false
is_map ch (deeds.Flow c s modem first last kind) = false
is_map ch (deeds.Drop c s) = false
is_map ch (deeds.Request c s n sent) = false
is_map ch deeds.Other = false

-- the numbers of those that are, from 0 on
abbrev pub maps_from : (ch i : ℕ) → List Deed → List ℕ
maps_from ch i [] = []
maps_from ch i (d ∷ ds) = (if is_map ch d then i ∷ [] else []) ++ maps_from ch (i + 1) ds

abbrev pub maps_on : ℕ → List Deed → List ℕ
maps_on ch ds = maps_from ch 0 ds
