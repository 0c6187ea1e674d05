-- What a node is asked, and what comes of it.
use Rattle.std.specs.Prelude.{List, [], length, Result, Ok, Err}
use Rattle.ballots.specs.declared.letters.Letter.{Letter}
use Rattle.map_release.specs.declared.numbered.Numbered.{Numbered}
use Rattle.node.specs.Calls.Cause.{Lead as AskedToLead, Offer as Offered, Receive as Received, Tell as AskedToTell}
use Rattle.proposer.specs.declared.fault.NodeFault.{NodeFault}
use Rattle.seats.specs.declared.acted.Acted.{Acted}
use Rattle.seats.specs.declared.acted.Acted.TheVariants as acted
use Rattle.seats.specs.declared.acted.Asked.{Asked}
use Rattle.seats.specs.declared.acted.Asked.TheVariants as asked
use Rattle.seats.specs.declared.answer.Answer.{Answer}
use Rattle.seats.specs.declared.answer.Answer.TheVariants.{Sent, Released, Finished, Refused, Fault}
use Rattle.seats.specs.Moves.{Ask}
use Rattle.seats.specs.Moves.Ask.{Call, TakeThenCrash, Release, Crash, Restart}

-- what is asked
abbrev pub ask_of : Asked → Ask
ask_of asked.Lead = Call AskedToLead
ask_of (asked.Offer value) = Call (Offered value.now)
ask_of (asked.Tell to place) = Call (AskedToTell to.now place)
ask_of (asked.Receive letter) = Call (Received letter.now)
ask_of (asked.ReceiveThenCrash letter) = TakeThenCrash letter.now
ask_of (asked.Release now) = Release now
ask_of asked.Crash = Crash
ask_of asked.Restart = Restart

-- what comes of a call: what it gave, or its fault
abbrev pub come_of : {T : Type 0} → (T → Acted) → Result T NodeFault → Acted
come_of whole (Ok given) = whole given
come_of whole (Err fault) = acted.Fault fault

-- the answer, if there is room for what the node gave
abbrev pub told : Acted → Answer
told (acted.Sent letters) = Sent (length letters.items)
told (acted.Released outputs) = Released (length outputs.items)
told acted.Finished = Finished
told (acted.Refused refusal) = Refused refusal
told (acted.Fault fault) = Fault fault

-- the letters that it gave
abbrev pub letters_of : Acted → List Letter
letters_of (acted.Sent letters) = letters.items
letters_of other = []

-- the outputs that it gave
abbrev pub outputs_of : Acted → List Numbered
outputs_of (acted.Released outputs) = outputs.items
outputs_of other = []
