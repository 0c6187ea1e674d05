-- Why an event changed nothing.
use Rattle.std.specs.Prelude.{ℕ}
use Rattle.world_events.specs.declared.refusal.EventRefusal.{EventRefusal}
use Rattle.world_events.specs.declared.refusal.EventRefusal.TheVariants.{NoLetter, NodeDown, NodeUp, NoOutput, TooOld}
use Rattle.world_events.specs.declared.refusal.EventRefusal.TheVariants.{NoModem, TimeBack, NoNode, OutOfMemory}

-- the number that stands for a refusal
abbrev pub event_refusal_number : EventRefusal → ℕ
event_refusal_number NoLetter = 1
event_refusal_number NodeDown = 2
event_refusal_number NodeUp = 3
event_refusal_number NoOutput = 4
event_refusal_number TooOld = 5
event_refusal_number NoModem = 6
event_refusal_number TimeBack = 7
event_refusal_number NoNode = 8
event_refusal_number OutOfMemory = 9
