-- Why a request waits.
use Rattle.std.specs.Prelude.{ℕ, ◌+◌, ◌==◌, nat_le, nat_lt, if◌then◌else◌}
use Rattle.grant_machine_parts.specs.Placing.{most_placements}
use Rattle.plan_account.specs.declared.reach.Reach.{Reach}
use Rattle.plan_account.specs.declared.why.Why.{Why}
use Rattle.plan_account.specs.declared.why.Why.TheVariants.{LeaseEnds, NoMap, NoGap, Placements, Kept}

-- a request for n minislots, of a lease with this last minislot, that was accepted behind so many MAPs: it fits no
-- later MAP within the lease; no MAP came; the last one left no gap so long; it left one, and had as many placements as
-- a MAP may have; else it could have placed it, and its cut kept minislots free
abbrev pub why_in : Reach → (last n maps : ℕ) → Why
why_in r last n maps =
    if nat_lt (last + 1) (r.end + n) then LeaseEnds
    else if maps == r.maps then NoMap
    else if nat_lt r.left.gap n then NoGap r.left.gap
    else if nat_le most_placements r.left.placed then Placements
    else Kept r.left.keep
