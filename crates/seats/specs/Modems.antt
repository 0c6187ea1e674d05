-- What the modems' events do, by cases.
use Rattle.std.specs.Prelude.{◌≡◌, ℕ, ◌<◌, ◌≤◌, List, [], ◌∷◌, ◌++◌, Option, Some, None, slice_get, slice_set}
use Rattle.grant_machine.specs.declared.output.Output.{Output}
use Rattle.modem.specs.State.{KnownChannel, channel_clock, channel_of}
use Rattle.modem.specs.Hears.{Hears, MayGrow}
use Rattle.modem.specs.Wants.{want_refusal, new_want}
use Rattle.modem.specs.Ticks.{Ticks}
use Rattle.modem.specs.Owner.{IsTimely}
use Rattle.world_events.specs.declared.event.Event.{Event}
use Rattle.world_events.specs.declared.event.Event.TheVariants.{Hear, Want, Tick}
use Rattle.seats.specs.declared.answer.Answer.{Answer}
use Rattle.seats.specs.declared.answer.Answer.TheVariants.{Finished, Heard, Ticked, WantRefused, Refused}
use Rattle.world_events.specs.declared.refusal.EventRefusal.TheVariants.{NoOutput, TooOld, NoModem, TimeBack}
use Rattle.world_events.specs.declared.refusal.EventRefusal.TheVariants.{OutOfMemory}
use Rattle.seats.specs.declared.answer.ReleasedOutput.{ReleasedOutput}
use Rattle.seats.specs.declared.answer.Transmission.{Transmission}
use Rattle.seats.specs.Receiver.{Receiver}

-- a modem hears an output near a time; a MAP that is far from its start is too old
abbrev pub HearsOutput : Receiver → Output → ℕ → Answer → Receiver → Type 0
HearsOutput r output near (Heard h) r' =
    IsTimely output near × Hears r.state output near h r'.state × (r'.heard ≡ record { output = output; near = near; answer = h } ∷ r.heard)
HearsOutput r output near (Refused TooOld) r' = (¬ IsTimely output near) × (r' ≡ r)
HearsOutput r output near (Refused OutOfMemory) r' = IsTimely output near × MayGrow r.state output near × (r' ≡ r)
HearsOutput r output near answer r' = ⊥

-- the output that it is to hear, if there is one
abbrev pub Listens : Receiver → Option ReleasedOutput → ℕ → Answer → Receiver → Type 0
Listens r None near answer r' = (answer ≡ Refused NoOutput) × (r' ≡ r)
Listens r (Some x) near answer r' = HearsOutput r x.numbered.output near answer r'

-- a modem wants to send a request
abbrev pub Wants : Receiver → ℕ → ℕ → ℕ → Answer → Receiver → Type 0
Wants r ch sid n Finished r' =
    (want_refusal r.state ch sid n ≡ None) × (r' ≡ record r { state = record r.state { wants = r.state.wants ++ new_want ch sid n ∷ [] } })
Wants r ch sid n (WantRefused fault) r' = (want_refusal r.state ch sid n ≡ Some fault) × (r' ≡ r)
Wants r ch sid n (Refused OutOfMemory) r' = (want_refusal r.state ch sid n ≡ None) × (r' ≡ r)
Wants r ch sid n answer r' = ⊥

-- a modem comes to a minislot of a channel that it knows
abbrev pub ComesToKnown : Receiver → ℕ → ℕ → KnownChannel → Answer → Receiver → Type 0
ComesToKnown r slot random c (Ticked sending) r' = (channel_clock c ≤ slot) × Ticks r.state c slot random sending r'.state × (r'.heard ≡ r.heard)
ComesToKnown r slot random c (Refused TimeBack) r' = (slot < channel_clock c) × (r' ≡ r)
ComesToKnown r slot random c (Refused OutOfMemory) r' = (channel_clock c ≤ slot) × (r' ≡ r)
ComesToKnown r slot random c answer r' = ⊥

-- a channel that it doesn't know gives nothing
abbrev pub ComesToUnknown : Receiver → Answer → Receiver → Type 0
ComesToUnknown r (Ticked sending) r' = (sending ≡ None) × (r' ≡ r)
ComesToUnknown r (Refused OutOfMemory) r' = r' ≡ r
ComesToUnknown r answer r' = ⊥

abbrev pub ComesTo : Receiver → ℕ → ℕ → Option KnownChannel → Answer → Receiver → Type 0
ComesTo r slot random (Some c) answer r' = ComesToKnown r slot random c answer r'
ComesTo r slot random None answer r' = ComesToUnknown r answer r'

-- what modem m does, if there is one
abbrev pub OfModem : List Receiver → ℕ → Option Receiver → (Receiver → Answer → Receiver → Type 0) → Answer → List Receiver → Type 0
OfModem modems m None Does answer modems' = (answer ≡ Refused NoModem) × (modems' ≡ modems)
OfModem modems m (Some r) Does answer modems' = (r' : Receiver) × Does r answer r' × (modems' ≡ slice_set modems m r')

-- a modem's event may be answered so, where these outputs were released, and leave the modems so
abbrev pub ModemNext : List Receiver → List ReleasedOutput → Event → Answer → List Receiver → Type 0
ModemNext modems outputs (Hear m i near) answer modems' = OfModem modems m (slice_get modems m) (λ r. Listens r (slice_get outputs i) near) answer modems'
ModemNext modems outputs (Want m ch sid n) answer modems' = OfModem modems m (slice_get modems m) (λ r. Wants r ch sid n) answer modems'
ModemNext modems outputs (Tick m ch slot random) answer modems' =
    OfModem modems m (slice_get modems m) (λ r. ComesTo r slot random (channel_of r.state.channels ch)) answer modems'
ModemNext modems outputs event answer modems' = ⊥

-- what is sent at an event that is answered so
abbrev pub sent_at : Event → Answer → List Transmission
sent_at (Tick m ch slot random) (Ticked (Some sending)) = record { modem = m; channel = ch; slot = slot; sending = sending } ∷ []
sent_at event answer = []
