-- Answers as text. Numbers are decimal.
use Rattle.std.specs.Prelude.{ℕ, List, ◌++◌, Option, Some, None, codes, decimal}
use Rattle.modem.specs.declared.types.Heard.{Heard}
use Rattle.modem.specs.declared.types.Heard.TheVariants as heard
use Rattle.modem.specs.declared.types.Sending.{Sending}
use Rattle.modem.specs.declared.types.Sending.TheVariants.{Unicast, Polled, Request, Ranging}
use Rattle.modem.specs.Wants.{number_of_fault}
use Rattle.proposer.specs.Faults.{node_fault_number}
use Rattle.proposer.specs.declared.fault.NodeFault.{NodeFault}
use Rattle.proposer.specs.declared.fault.NodeFault.TheVariants as fault
use Rattle.world_events.specs.Refusals.{event_refusal_number}
use Rattle.world_events.specs.declared.refusal.EventRefusal.{EventRefusal}
use Rattle.world_events.specs.declared.refusal.EventRefusal.TheVariants as refusal
use Rattle.seats.specs.declared.answer.Answer.{Answer}
use Rattle.seats.specs.declared.answer.Answer.TheVariants.{Sent, Finished, Released, Heard as HeardSo, Ticked}
use Rattle.seats.specs.declared.answer.Answer.TheVariants.{WantRefused, Refused, Fault, Crashed}

-- what a modem made of an output
abbrev pub heard_text : Heard → List ℕ
heard_text heard.Taken = codes "taken"
heard_text heard.NotMine = codes "not-mine"
heard_text heard.OtherUcd = codes "other-ucd"
heard_text heard.Past = codes "past"
heard_text heard.Unreadable = codes "unreadable"

-- what a modem sends
abbrev pub sending_text : Option Sending → List ℕ
sending_text None = codes "idle"
sending_text (Some (Unicast sid)) = codes "unicast " ++ decimal sid
sending_text (Some (Polled sid n)) = codes "polled " ++ (decimal sid ++ (codes " " ++ decimal n))
sending_text (Some (Request sid n)) = codes "request " ++ (decimal sid ++ (codes " " ++ decimal n))
sending_text (Some (Ranging sid)) = codes "ranging " ++ decimal sid

-- the name of why an event changed nothing
abbrev pub refusal_name : EventRefusal → List ℕ
refusal_name refusal.NoLetter = codes "NoLetter"
refusal_name refusal.NodeDown = codes "NodeDown"
refusal_name refusal.NodeUp = codes "NodeUp"
refusal_name refusal.NoOutput = codes "NoOutput"
refusal_name refusal.TooOld = codes "TooOld"
refusal_name refusal.NoModem = codes "NoModem"
refusal_name refusal.TimeBack = codes "TimeBack"
refusal_name refusal.NoNode = codes "NoNode"
refusal_name refusal.OutOfMemory = codes "OutOfMemory"

-- the name of a node's fault
abbrev pub fault_name : NodeFault → List ℕ
fault_name fault.NotLeading = codes "NotLeading"
fault_name fault.LogFull = codes "LogFull"
fault_name fault.RoundsSpent = codes "RoundsSpent"
fault_name fault.ValueTooLong = codes "ValueTooLong"
fault_name fault.OutOfMemory = codes "OutOfMemory"
fault_name fault.StoreRefused = codes "StoreRefused"
fault_name fault.Down = codes "Down"

-- an answer
abbrev pub answer_text : Answer → List ℕ
answer_text (Sent n) = codes "sent " ++ decimal n
answer_text Finished = codes "done"
answer_text (Released n) = codes "released " ++ decimal n
answer_text (HeardSo heard) = codes "heard " ++ heard_text heard
answer_text (Ticked sending) = sending_text sending
answer_text (WantRefused fault) = codes "want-refused " ++ decimal (number_of_fault fault)
answer_text (Refused refusal) = codes "refused " ++ (decimal (event_refusal_number refusal) ++ (codes " " ++ refusal_name refusal))
answer_text (Fault fault) = codes "fault " ++ (decimal (node_fault_number fault) ++ (codes " " ++ fault_name fault))
answer_text Crashed = codes "crashed"
