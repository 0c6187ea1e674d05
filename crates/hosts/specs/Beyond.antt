-- Offers beyond the places that count.
use Rattle.std.specs.Prelude.{ℕ, Bool, true, false, ◌&&◌, nat_lt}
use Rattle.node.specs.Calls.Cause.{Offer, Lead, Receive, Tell}
use Rattle.node.specs.View.{Standing}
use Rattle.node.specs.View.Standing.{Running, Stopped}
use Rattle.proposer.specs.declared.role.Role.{Role}
use Rattle.proposer.specs.declared.role.Role.TheVariants.{Idle, Preparing, Leading}
use Rattle.seats.specs.Moves.{Ask}
use Rattle.seats.specs.Moves.Ask.{Call, TakeThenCrash, Release, Crash, Restart}

-- it leads, and its next place is beyond the first ones, so many
abbrev pub leads_beyond : ℕ → Role → Bool
leads_beyond places Idle = false
leads_beyond places (Preparing b q counted joined) = false
leads_beyond places (Leading b next) = nat_lt places next

-- a value is offered
abbrev pub is_offer : Ask → Bool
is_offer (Call (Offer value)) = true
is_offer (Call Lead) = false
is_offer (Call (Receive l)) = false
is_offer (Call (Tell to place)) = false
is_offer (TakeThenCrash l) = false
is_offer (Release now) = false
is_offer Crash = false
is_offer Restart = false

-- a value is offered to a node that runs and leads, and its next place is beyond
abbrev pub is_beyond : ℕ → Standing → Ask → Bool
is_beyond places (Running view) ask = is_offer ask && leads_beyond places view.role
is_beyond places (Stopped c doubt) ask = false
