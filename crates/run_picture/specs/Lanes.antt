-- Where nodes and modems stand: a lane each, from the left.
use Rattle.std.specs.Prelude.{ℕ, ◌+◌, ◌*◌, ◌/◌, nat_lt, if◌then◌else◌, List, Option, Some, None, slice_get}
use Rattle.ballots.specs.declared.letters.Letter.{Letter}
use Rattle.world_events.specs.declared.event.Event.{Event}
use Rattle.world_events.specs.declared.event.Event.TheVariants.{Lead, Offer, Tell, Deliver, DeliverThenCrash, Crash}
use Rattle.world_events.specs.declared.event.Event.TheVariants.{Restart, Release, Hear, Want, Tick}

-- how wide each of so many lanes is
abbrev pub lane_width : ℕ → ℕ
lane_width lanes = if nat_lt lanes 4 then 136 else (if nat_lt lanes 6 then 118 else 104)

-- the middle of lane k of so many
abbrev pub lane_x : (lanes k : ℕ) → ℕ
lane_x lanes k = 212 + (lane_width lanes / 2 + k * lane_width lanes)

-- where the gutter on the right begins
abbrev pub lanes_end : ℕ → ℕ
lanes_end lanes = 246 + lanes * lane_width lanes

-- the lane of node k, if there is one, and that of modem m, behind the nodes
abbrev pub node_lane : (members k : ℕ) → Option ℕ
node_lane members k = if nat_lt k members then Some k else None

abbrev pub modem_lane : (members modems m : ℕ) → Option ℕ
modem_lane members modems m = if nat_lt m modems then Some (members + m) else None

-- the lane of a letter's addressee
abbrev pub addressee_lane : (members : ℕ) → Option Letter → Option ℕ
addressee_lane members None = None
addressee_lane members (Some l) = node_lane members l.to

-- whose event it is: a node's or a modem's; of a delivery the addressee's
abbrev pub lane_of : (members modems : ℕ) → List Letter → Event → Option ℕ
lane_of members modems letters (Lead k) = node_lane members k
lane_of members modems letters (Offer k value) = node_lane members k
lane_of members modems letters (Tell k to place) = node_lane members k
lane_of members modems letters (Deliver i) = addressee_lane members (slice_get letters i)
lane_of members modems letters (DeliverThenCrash i) = addressee_lane members (slice_get letters i)
lane_of members modems letters (Crash k) = node_lane members k
lane_of members modems letters (Restart k) = node_lane members k
lane_of members modems letters (Release k now) = node_lane members k
lane_of members modems letters (Hear m i near) = modem_lane members modems m
lane_of members modems letters (Want m ch sid n) = modem_lane members modems m
lane_of members modems letters (Tick m ch slot random) = modem_lane members modems m

-- where it is marked: on its lane, or left of the lanes where there is none
abbrev pub mark_x : (lanes : ℕ) → Option ℕ → ℕ
mark_x lanes None = 200
mark_x lanes (Some k) = lane_x lanes k
