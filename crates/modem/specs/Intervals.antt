-- What a map decides.
use Rattle.std.specs.Prelude.{ℕ, ◌+◌, Bool, false, ◌==◌, ◌&&◌, nat_lt, nat_le, if◌then◌else◌, List, Option, Some, None}
use Rattle.std.specs.List.{list_any}
use Rattle.map_body.specs.declared.element.Element.{Element}
use Rattle.map_body.specs.Intervals.{intervals, after_null}
use Rattle.map_body.specs.Iucs as iucs
use Rattle.map_body.specs.Body.{Body}
use Rattle.modem.specs.declared.known.OwnLease.{OwnLease}
use Rattle.modem.specs.State.{is_own_at}
use Rattle.modem.specs.declared.known.Progress.{Progress}
use Rattle.modem.specs.declared.known.Progress.TheVariants.{Unsent, Sent}
use Rattle.modem.specs.declared.known.Want.{Want}

-- a grant of some length to the SID, before the Null
abbrev pub is_granted : List Element → ℕ → Bool
is_granted es sid = list_any (λ i. (i.sid == sid) && (iucs.answers_request i.iuc && nat_lt i.from i.to)) (intervals es)

-- the SID's request is pending: a grant element after the Null
abbrev pub is_pending : List Element → ℕ → Bool
is_pending es sid = list_any (λ e. (e.sid == sid) && iucs.answers_request e.iuc) (after_null es)

-- the want was sent on this channel before the time up to which the map acknowledges requests
abbrev pub is_acknowledged : ℕ → Option ℕ → Want → Progress → Bool
is_acknowledged ch None w progress = false
is_acknowledged ch (Some ack) w (Unsent drawn) = false
is_acknowledged ch (Some ack) w (Sent «at») = (w.channel == ch) && nat_lt «at» ack

-- a want whose request was lost: unsent again with one more try, and gone after 16 tries
abbrev pub lost : Want → Option Want
lost w = if nat_le 16 (w.tries + 1) then None else Some (record w { tries = w.tries + 1; progress = Unsent None })

-- what a map of this start makes of a want whose SID is the modem's where it starts: granted it is gone, pending it
-- stays, else it is lost
abbrev pub decided : List OwnLease → Body → ℕ → Option ℕ → Want → Option Want
decided leases map start ack w =
    if is_acknowledged map.head.channel ack w w.progress && is_own_at leases map.head.channel w.sid start
    then (if is_granted map.elements w.sid then None else (if is_pending map.elements w.sid then Some w else lost w))
    else Some w
