-- A node in its seat, and what a line asks of it.
use Rattle.node.specs.declared.node.Node.{Ghosts}
use Rattle.node.specs.Calls.Cause.{Lead as AskedToLead, Offer as Offered, Receive as Received, Tell as AskedToTell}
use Rattle.node_lines.specs.declared.request.Request.{Request}
use Rattle.node_lines.specs.declared.request.Request.TheVariants as request
use Rattle.seats.specs.declared.acted.Acted.{Acted}
use Rattle.seats.specs.declared.seat.Seat.{Seat}
use Rattle.seats.specs.Acted.{letters_of, outputs_of, told}
use Rattle.seats.specs.Acts.{Acts}
use Rattle.seats.specs.Moves.{Ask}
use Rattle.seats.specs.Moves.Ask.{Call, Release}

-- what a request asks of a node
abbrev pub asked_of : Request → Ask
asked_of request.Lead = Call AskedToLead
asked_of (request.Offer value) = Call (Offered value)
asked_of (request.Release now) = Release now
asked_of (request.Letter letter) = Call (Received letter)
asked_of (request.Tell to place) = Call (AskedToTell to place)

-- the node did what it was asked, and this came of it
abbrev pub DoesAsAsked : {N : Type 0} {g : Ghosts N} → Seat N g → Request → Acted → Seat N g → Type 0
DoesAsAsked old asked acted new = Acts old (asked_of asked) (told acted) (letters_of acted) (outputs_of acted) new
