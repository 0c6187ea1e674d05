-- Runs in which nothing fails, computed over the definitions.
use Rattle.std.specs.Prelude.{◌≡◌, ℕ, List, [], ◌∷◌, ◌++◌, Some, None}
use Rattle.ballots.specs.declared.letters.Note.TheVariants.{Prepare, Promise, Accept}
use Rattle.grant_machine.specs.declared.output.Output.{Output}
use Rattle.grant_machine.specs.declared.output.Output.TheVariants.{ChannelSet, Map}
use Rattle.proposer.specs.Letters.{letter}
use Rattle.proposer.specs.declared.fault.NodeFault.TheVariants.{NotLeading}
use Rattle.world_events.specs.declared.event.Event.{Event}
use Rattle.world_events.specs.declared.event.Event.TheVariants.{Lead, Offer, Tell, Deliver, DeliverThenCrash, Crash}
use Rattle.world_events.specs.declared.event.Event.TheVariants.{Restart, Release}
use Rattle.seats.specs.declared.answer.Answer.{Answer}
use Rattle.seats.specs.declared.answer.Answer.TheVariants.{Sent, Finished, Released, Refused, Fault}
use Rattle.world_events.specs.declared.refusal.EventRefusal.TheVariants.{NoLetter, NodeDown, NodeUp, NoNode}
use Rattle.seats.specs.declared.answer.ReleasedOutput.{ReleasedOutput}
use Rattle.network_script.specs.World.{Written, opening}
use Rattle.network_script.specs.Plain.{acts, least_ballot}

abbrev pub runs : ℕ → List Event → List Answer × Written
runs members script = acts members (opening members []) script

abbrev pub answers : ℕ → List Event → List Answer
answers members script = (runs members script).0

abbrev pub given : ℕ → ℕ → Output → ReleasedOutput
given node place output = record { node = node; numbered = record { place = place; output = output } }

-- a Channel command: id 1, UCD Count 7, short_max 16, back-offs 2 5 and 3 8, base 1000
abbrev pub set_channel : List ℕ
set_channel = 1 ∷ 1 ∷ 7 ∷ 0 ∷ 16 ∷ 2 ∷ 5 ∷ 3 ∷ 8 ∷ 0 ∷ 0 ∷ 0 ∷ 0 ∷ 0 ∷ 0 ∷ 3 ∷ 232 ∷ []

-- a Cut of one minislot of that channel
abbrev pub cut_one : List ℕ
cut_one = 5 ∷ 1 ∷ 0 ∷ 1 ∷ 0 ∷ 0 ∷ 0 ∷ 0 ∷ 0 ∷ 0 ∷ 0 ∷ 0 ∷ 0 ∷ 0 ∷ 0 ∷ 0 ∷ 0 ∷ 0 ∷ 0 ∷ 0 ∷ []

-- and its MAP body
abbrev pub map_one : List ℕ
map_one = 1 ∷ 7 ∷ 2 ∷ 0 ∷ 0 ∷ 0 ∷ 3 ∷ 232 ∷ 0 ∷ 0 ∷ 0 ∷ 0 ∷ 2 ∷ 5 ∷ 3 ∷ 8 ∷ 255 ∷ 252 ∷ 64 ∷ 0 ∷ 0 ∷ 1 ∷ 192 ∷ 1 ∷ []

-- three nodes: one comes to lead, two commands are learned, and two nodes release the same
abbrev pub one_leader : List Event
one_leader = Lead 0 ∷ Deliver 0 ∷ Deliver 1 ∷ Deliver 3 ∷ Deliver 4 ∷ Offer 0 set_channel ∷ Deliver 5 ∷ Deliver 6 ∷ Deliver 8 ∷ Deliver 11 ∷ Deliver 9 ∷ Deliver 12
    ∷ Offer 0 cut_one ∷ Deliver 14 ∷ Deliver 15 ∷ Deliver 17 ∷ Deliver 20 ∷ Deliver 18 ∷ Deliver 21 ∷ Release 0 0 ∷ Release 1 0 ∷ []

abbrev pub OneLeader : Type 0
OneLeader =
    (answers 3 one_leader ≡ Sent 3 ∷ Sent 1 ∷ Sent 1 ∷ Sent 0 ∷ Sent 0 ∷ Sent 3 ∷ Sent 3 ∷ Sent 3 ∷ Sent 0 ∷ Sent 0 ∷ Sent 0 ∷ Sent 0 ∷ Sent 3 ∷ Sent 3 ∷ Sent 3 ∷ Sent 0 ∷ Sent 0 ∷ Sent 0 ∷ Sent 0 ∷ Released 2 ∷ Released 2 ∷ [])
    × ((runs 3 one_leader).1.outputs ≡ given 0 1 (ChannelSet 1 7) ∷ given 0 2 (Map 1 1000 1 map_one) ∷ given 1 1 (ChannelSet 1 7) ∷ given 1 2 (Map 1 1000 1 map_one) ∷ [])

-- what a node had learned outlives its crash: it releases that again, without hearing of it again
abbrev pub LearnedOutlivesCrash : Type 0
LearnedOutlivesCrash =
    (runs 3 (one_leader ++ Crash 1 ∷ Restart 1 ∷ Release 1 0 ∷ [])).1.outputs
    ≡ given 0 1 (ChannelSet 1 7) ∷ given 0 2 (Map 1 1000 1 map_one) ∷ given 1 1 (ChannelSet 1 7) ∷ given 1 2 (Map 1 1000 1 map_one) ∷ given 1 1 (ChannelSet 1 7) ∷ given 1 2 (Map 1 1000 1 map_one) ∷ []

-- five nodes: a leader's one Accept has reached node 1 as it crashes. A takeover that hears of node 1 proposes that
-- value
abbrev pub TakesOver : Type 0
TakesOver =
    answers 5 (Lead 0 ∷ Deliver 0 ∷ Deliver 1 ∷ Deliver 2 ∷ Deliver 5 ∷ Deliver 6 ∷ Deliver 7 ∷ Offer 0 (7 ∷ []) ∷ Deliver 9 ∷ Crash 0 ∷ Lead 2 ∷ Deliver 19 ∷ Deliver 20 ∷ Deliver 21 ∷ Deliver 23 ∷ Deliver 24 ∷ Deliver 25 ∷ [])
    ≡ Sent 5 ∷ Sent 1 ∷ Sent 1 ∷ Sent 1 ∷ Sent 0 ∷ Sent 0 ∷ Sent 0 ∷ Sent 5 ∷ Sent 5 ∷ Finished ∷ Sent 5 ∷ Sent 1 ∷ Sent 1 ∷ Sent 1 ∷ Sent 0 ∷ Sent 0 ∷ Sent 5 ∷ []

-- one that doesn't proposes nothing, and then what is offered. The old Accept is answered by Higher, which the
-- restarted leader heeds as it leads, and by node 1 with its vote again
abbrev pub TakesOverAfresh : Type 0
TakesOverAfresh =
    answers 5 (Lead 0 ∷ Deliver 0 ∷ Deliver 1 ∷ Deliver 2 ∷ Deliver 5 ∷ Deliver 6 ∷ Deliver 7 ∷ Offer 0 (7 ∷ []) ∷ Deliver 9 ∷ Crash 0 ∷ Lead 2 ∷ Deliver 20 ∷ Deliver 21 ∷ Deliver 22 ∷ Deliver 23 ∷ Deliver 24 ∷ Deliver 25
    ∷ Offer 2 (9 ∷ []) ∷ Deliver 28 ∷ Deliver 29 ∷ Deliver 30 ∷ Deliver 10 ∷ Restart 0 ∷ Deliver 46 ∷ Lead 0 ∷ Deliver 9 ∷ [])
    ≡ Sent 5 ∷ Sent 1 ∷ Sent 1 ∷ Sent 1 ∷ Sent 0 ∷ Sent 0 ∷ Sent 0 ∷ Sent 5 ∷ Sent 5 ∷ Finished ∷ Sent 5 ∷ Sent 1 ∷ Sent 1 ∷ Sent 1 ∷ Sent 0 ∷ Sent 0 ∷ Sent 0
    ∷ Sent 5 ∷ Sent 5 ∷ Sent 5 ∷ Sent 5 ∷ Sent 1 ∷ Finished ∷ Sent 0 ∷ Sent 5 ∷ Sent 5 ∷ []

-- a crash right after a vote loses its letters, and the restarted node's promise reports the vote
abbrev pub VoteOutlivesCrash : Type 0
VoteOutlivesCrash =
    (runs 3 (Lead 0 ∷ Deliver 0 ∷ Deliver 1 ∷ Deliver 3 ∷ Deliver 4 ∷ Offer 0 (7 ∷ []) ∷ DeliverThenCrash 6 ∷ Restart 1 ∷ Lead 2 ∷ Deliver 9 ∷ [])).1.letters
    ≡ letter 0 0 (Prepare 8 1) ∷ letter 0 1 (Prepare 8 1) ∷ letter 0 2 (Prepare 8 1) ∷ letter 0 0 (Promise 8 1 []) ∷ letter 1 0 (Promise 8 1 [])
    ∷ letter 0 0 (Accept 8 1 (7 ∷ [])) ∷ letter 0 1 (Accept 8 1 (7 ∷ [])) ∷ letter 0 2 (Accept 8 1 (7 ∷ []))
    ∷ letter 2 0 (Prepare 10 1) ∷ letter 2 1 (Prepare 10 1) ∷ letter 2 2 (Prepare 10 1) ∷ letter 1 2 (Promise 10 1 ((1, record { ballot = 8; value = 7 ∷ [] }) ∷ [])) ∷ []

-- a ballot that was tried before a crash isn't tried again
abbrev pub TriesHigher : Type 0
TriesHigher =
    (runs 3 (Lead 0 ∷ Crash 0 ∷ Restart 0 ∷ Lead 0 ∷ [])).1.letters
    ≡ letter 0 0 (Prepare 8 1) ∷ letter 0 1 (Prepare 8 1) ∷ letter 0 2 (Prepare 8 1) ∷ letter 0 0 (Prepare 16 1) ∷ letter 0 1 (Prepare 16 1) ∷ letter 0 2 (Prepare 16 1) ∷ []

-- refused events change nothing
abbrev pub IsRefused : Type 0
IsRefused = answers 3 (Offer 0 [] ∷ Deliver 99 ∷ Restart 0 ∷ Lead 7 ∷ Crash 0 ∷ Release 0 0 ∷ []) ≡ Fault NotLeading ∷ Refused NoLetter ∷ Refused NodeUp ∷ Refused NoNode ∷ Finished ∷ Refused NodeDown ∷ []

-- a value that is learned before the one at an earlier place isn't released, until Known letters close the gap
abbrev pub ReleasesInOrder : Type 0
ReleasesInOrder =
    answers 3 (Lead 0 ∷ Deliver 0 ∷ Deliver 1 ∷ Deliver 3 ∷ Deliver 4 ∷ Offer 0 (7 ∷ []) ∷ Offer 0 (9 ∷ []) ∷ Deliver 5 ∷ Deliver 6 ∷ Deliver 8 ∷ Deliver 9
    ∷ Deliver 18 ∷ Deliver 21 ∷ Deliver 11 ∷ Deliver 14 ∷ Deliver 17 ∷ Deliver 20 ∷ Release 1 0 ∷ Lead 1 ∷ Deliver 23 ∷ Deliver 26 ∷ Release 1 0 ∷ [])
    ≡ Sent 3 ∷ Sent 1 ∷ Sent 1 ∷ Sent 0 ∷ Sent 0 ∷ Sent 3 ∷ Sent 3 ∷ Sent 3 ∷ Sent 3 ∷ Sent 3 ∷ Sent 3
    ∷ Sent 0 ∷ Sent 0 ∷ Sent 0 ∷ Sent 0 ∷ Sent 0 ∷ Sent 0 ∷ Released 0 ∷ Sent 3 ∷ Sent 3 ∷ Sent 0 ∷ Released 2 ∷ []

-- the same gap is closed by what the leader tells, with no new ballot
abbrev pub ToldCatchesUp : Type 0
ToldCatchesUp =
    answers 3 (Lead 0 ∷ Deliver 0 ∷ Deliver 1 ∷ Deliver 3 ∷ Deliver 4 ∷ Offer 0 (7 ∷ []) ∷ Offer 0 (9 ∷ []) ∷ Deliver 5 ∷ Deliver 6 ∷ Deliver 8 ∷ Deliver 9
    ∷ Deliver 18 ∷ Deliver 21 ∷ Deliver 11 ∷ Deliver 14 ∷ Deliver 17 ∷ Deliver 20 ∷ Release 1 0 ∷ Tell 2 1 1 ∷ Tell 0 3 1 ∷ Tell 0 1 1 ∷ Deliver 23 ∷ Release 1 0 ∷ [])
    ≡ Sent 3 ∷ Sent 1 ∷ Sent 1 ∷ Sent 0 ∷ Sent 0 ∷ Sent 3 ∷ Sent 3 ∷ Sent 3 ∷ Sent 3 ∷ Sent 3 ∷ Sent 3
    ∷ Sent 0 ∷ Sent 0 ∷ Sent 0 ∷ Sent 0 ∷ Sent 0 ∷ Sent 0 ∷ Released 0 ∷ Sent 0 ∷ Sent 0 ∷ Sent 2 ∷ Sent 0 ∷ Released 2 ∷ []

abbrev pub LeastBallots : Type 0
LeastBallots =
    (least_ballot 0 1 ≡ Some 9) × (least_ballot 8 0 ≡ Some 16) × (least_ballot 8 2 ≡ Some 10) × (least_ballot 10 0 ≡ Some 16) × (least_ballot 8796093022200 0 ≡ None) × (least_ballot 8796093022200 1 ≡ Some 8796093022201)
