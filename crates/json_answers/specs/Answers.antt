-- Answers as fields of JSON.
use Rattle.std.specs.Prelude.{ℕ, List, Option, Some, None, codes}
use Rattle.modem.specs.declared.types.Sending.{Sending}
use Rattle.modem.specs.declared.types.Sending.TheVariants.{Unicast, Polled, Request, Ranging}
use Rattle.modem.specs.Wants.{number_of_fault}
use Rattle.proposer.specs.Faults.{node_fault_number}
use Rattle.world_events.specs.Refusals.{event_refusal_number}
use Rattle.seats.specs.declared.answer.Answer.{Answer}
use Rattle.seats.specs.declared.answer.Answer.TheVariants.{Sent, Finished, Released, Heard, Ticked, WantRefused}
use Rattle.seats.specs.declared.answer.Answer.TheVariants.{Refused, Fault, Crashed}
use Rattle.printed_answers.specs.Texts.{heard_text, refusal_name, fault_name}
use Rattle.serde_json.specs.Data.{Members}
use Rattle.json_outputs.specs.Fields.{with_number, with_text}
use Rattle.json_answers.specs.Names.{want_fault_name}

-- with the name of an answer
abbrev pub with_name : List ℕ → Members → Members
with_name name ms = with_text (codes "answer") name ms

-- with a request that a modem sends
abbrev pub with_sid : List ℕ → (sid minislots : ℕ) → Members → Members
with_sid name sid minislots ms = with_number (codes "minislots") minislots (with_number (codes "sid") sid (with_name name ms))

-- with what a modem sends
abbrev pub with_sending : Option Sending → Members → Members
with_sending None ms = with_name (codes "idle") ms
with_sending (Some (Unicast sid)) ms = with_number (codes "sid") sid (with_name (codes "unicast") ms)
with_sending (Some (Polled sid n)) ms = with_sid (codes "polled") sid n ms
with_sending (Some (Request sid n)) ms = with_sid (codes "request") sid n ms
with_sending (Some (Ranging sid)) ms = with_number (codes "sid") sid (with_name (codes "ranging") ms)

-- with the number and the name of a refusal or of a fault
abbrev pub with_fault : List ℕ → ℕ → List ℕ → Members → Members
with_fault answer number name ms = with_text (codes "name") name (with_number (codes "number") number (with_name answer ms))

-- with an answer
abbrev pub with_answer : Answer → Members → Members
with_answer (Sent n) ms = with_number (codes "letters") n (with_name (codes "sent") ms)
with_answer Finished ms = with_name (codes "done") ms
with_answer (Released n) ms = with_number (codes "count") n (with_name (codes "released") ms)
with_answer (Heard heard) ms = with_text (codes "heard") (heard_text heard) (with_name (codes "heard") ms)
with_answer (Ticked sending) ms = with_sending sending ms
with_answer (WantRefused fault) ms = with_fault (codes "want-refused") (number_of_fault fault) (want_fault_name fault) ms
with_answer (Refused refusal) ms = with_fault (codes "refused") (event_refusal_number refusal) (refusal_name refusal) ms
with_answer (Fault fault) ms = with_fault (codes "fault") (node_fault_number fault) (fault_name fault) ms
with_answer Crashed ms = with_name (codes "crashed") ms
