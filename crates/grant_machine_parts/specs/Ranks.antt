-- Requests with their flows' priorities and the last minislots of their flows' leases, and in their order.
use Rattle.std.specs.Prelude.{◌≡◌, ℕ, ◌==◌, nat_le, List, [], ◌∷◌, map}
use Rattle.std.specs.List.{filter, flat_map}
use Rattle.flow_state.specs.declared.flow.Waiting.{Waiting}
pub use Rattle.grant_machine_parts.specs.declared.waiting.Ranked.{Ranked}

-- the requests alone
abbrev pub requests_in : List Ranked → List Waiting
requests_in ranked = map (λ r. r.request) ranked

-- those of a priority, and those by priority, greater first, and then by arrival
abbrev pub of_priority : List Ranked → ℕ → List Ranked
of_priority ranked priority = filter (λ r. r.priority == priority) ranked

abbrev pub by_priority : List Ranked → List Ranked
by_priority ranked = flat_map (of_priority ranked) (7 ∷ 6 ∷ 5 ∷ 4 ∷ 3 ∷ 2 ∷ 1 ∷ 0 ∷ [])

-- those whose leases don't end before this time
abbrev pub going_on : ℕ → List Ranked → List Ranked
going_on end ranked = filter (λ r. nat_le end r.last) ranked

-- its last minislot is that of its SID's lease
abbrev pub IsOfLast : (ℕ → ℕ) → Ranked → Type 0
IsOfLast last r = r.last ≡ last r.request.sid
