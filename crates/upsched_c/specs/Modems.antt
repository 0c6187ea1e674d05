-- What calls on a modem do.
use Rattle.std.specs.Prelude.{◌≡◌, ℕ, ◌^◌, ◌<◌, ◌≤◌, List, [], ◌∷◌, ◌++◌, Option, Some, None, IfSome, MatchOption}
use Rattle.std.specs.Option.{option_map}
use Rattle.map_body.specs.Layout.{IsBody}
use Rattle.grant_machine.specs.declared.output.Output.{Output}
use Rattle.modem.specs.declared.action.Action.{Action}
use Rattle.modem.specs.declared.action.Action.TheVariants.{Grant, Poll, Contention, LeaseEnd, Ranging as RangingAct}
use Rattle.modem.specs.declared.types.Heard.{Heard}
use Rattle.modem.specs.declared.types.Heard.TheVariants.{Taken, NotMine, OtherUcd, Past, Unreadable}
use Rattle.modem.specs.declared.types.Sending.{Sending}
use Rattle.modem.specs.declared.types.Sending.TheVariants.{Unicast, Polled, Request, Ranging}
use Rattle.modem.specs.Hears.{Hears, HearsMap, IsDue, MayGrow}
use Rattle.modem.specs.LetsGo.{HasFewOld, LetsGoAfter}
use Rattle.modem.specs.NextEvent.{AreQuiet, IsNext}
use Rattle.modem.specs.State.{State, KnownChannel, channel_of, channel_clock}
use Rattle.modem.specs.Ticks.{Ticks}
use Rattle.modem.specs.Wants.{want_refusal, new_want}
use Rattle.upsched_c.specs.declared.handle.Held.{Held}
use Rattle.upsched_c.specs.declared.handle.Held.TheVariants as holds
use Rattle.upsched_c.specs.declared.sending.SendingFields.{SendingFields}
use Rattle.upsched_c.specs.declared.sending.EventFields.{EventFields}
use Rattle.upsched_c.specs.declared.status.Status.{Status}
use Rattle.upsched_c.specs.declared.status.Status.TheVariants as statuses
use Rattle.upsched_c.specs.Handles.{Asks}

-- what a handle holds is asked as a modem; a scheduler or a MAP is none, and stays as it is
abbrev pub AsModem : {A : Type 0} → (State → A → State → A → Status → Type 0) → Held → A → Held → A → Status → Type 0
AsModem Does (holds.Modem v) out (holds.Modem after) out' status = Does v out after out' status
AsModem Does (holds.Modem v) out (holds.Machine _) out' status = ⊥
AsModem Does (holds.Modem v) out (holds.Map _) out' status = ⊥
AsModem Does (holds.Machine rows) out new out' status = (status ≡ statuses.OtherKind) × (new ≡ holds.Machine rows) × (out' ≡ out)
AsModem Does (holds.Map body) out new out' status = (status ≡ statuses.OtherKind) × (new ≡ holds.Map body) × (out' ≡ out)

-- a handle is asked as a modem
abbrev pub AsksModem : {A : Type 0} → (State → A → State → A → Status → Type 0) → Option Held → A → Option Held → A → Status → Type 0
AsksModem Does old out new out' status = Asks (AsModem Does) old out new out' status

-- the number that tells how an output was heard
abbrev pub heard_number : Heard → ℕ
heard_number Taken = 0
heard_number NotMine = 1
heard_number OtherUcd = 2
heard_number Past = 3
heard_number Unreadable = 4

-- a modem hears an output that is no MAP, and how is told
abbrev pub HearsNoMap : Output → State → ℕ → State → ℕ → Status → Type 0
HearsNoMap output v old after new statuses.Done = (answer : Heard) × Hears v output 0 answer after × (new ≡ heard_number answer)
HearsNoMap output v old after new statuses.OutOfMemory = MayGrow v output 0 × (after ≡ v) × (new ≡ old)
HearsNoMap output v old after new _ = ⊥

-- a modem hears the body of a MAP near a time, lets go of what has ended, and how it heard is told
abbrev pub HearsBody : List ℕ → ℕ → State → ℕ → State → ℕ → Status → Type 0
HearsBody bytes near v old after new statuses.Done =
    (answer : Heard) × (near < 2 ^ 63) × HearsMap v bytes near answer after × LetsGoAfter bytes answer after × (new ≡ heard_number answer)
HearsBody bytes near v old after new statuses.BadField = (2 ^ 63 ≤ near) × (after ≡ v) × (new ≡ old)
HearsBody bytes near v old after new statuses.OutOfMemory = (near < 2 ^ 63) × IsDue v bytes near × (after ≡ v) × (new ≡ old)
HearsBody bytes near v old after new _ = ⊥

-- a modem hears what another handle holds near a time: a MAP as any of its bytes, and nothing else
abbrev pub HearsHeld : Option Held → ℕ → State → ℕ → State → ℕ → Status → Type 0
HearsHeld (Some (holds.Map body)) near v old after new status = (bytes : List ℕ) → IsBody bytes body → HearsBody bytes near v old after new status
HearsHeld (Some (holds.Machine _)) near v old after new status = (status ≡ statuses.OtherKind) × (after ≡ v) × (new ≡ old)
HearsHeld (Some (holds.Modem _)) near v old after new status = (status ≡ statuses.OtherKind) × (after ≡ v) × (new ≡ old)
HearsHeld None near v old after new status = (status ≡ statuses.Closed) × (after ≡ v) × (new ≡ old)

-- a modem takes a want of so many minislots for a SID of a channel, or refuses it
abbrev pub TakesWant : (ch sid n : ℕ) → State → Unit {0} → State → Unit {0} → Status → Type 0
TakesWant ch sid n v _ after _ statuses.Done =
    (want_refusal v ch sid n ≡ None) × (after ≡ record v { wants = v.wants ++ new_want ch sid n ∷ [] })
TakesWant ch sid n v _ after _ (statuses.Want fault) = (want_refusal v ch sid n ≡ Some fault) × (after ≡ v)
TakesWant ch sid n v _ after _ statuses.OutOfMemory = (want_refusal v ch sid n ≡ None) × (after ≡ v)
TakesWant ch sid n v _ after _ _ = ⊥

-- the fields that tell what is sent
abbrev pub sending_fields : Option Sending → SendingFields
sending_fields None = record { kind = 0; sid = 0; minislots = 0 }
sending_fields (Some (Unicast sid)) = record { kind = 1; sid = sid; minislots = 0 }
sending_fields (Some (Polled sid n)) = record { kind = 2; sid = sid; minislots = n }
sending_fields (Some (Request sid n)) = record { kind = 3; sid = sid; minislots = n }
sending_fields (Some (Ranging sid)) = record { kind = 4; sid = sid; minislots = 0 }

-- a modem answers a tick of a channel: nothing where it doesn't know the channel
abbrev pub AnswersTick : (ch slot random : ℕ) → State → Option Sending → State → Type 0
AnswersTick ch slot random v sending after =
    MatchOption (channel_of v.channels ch)
    ((sending ≡ None) × (after ≡ v))
    (λ c. (channel_clock c ≤ slot) × Ticks v c slot random sending after × HasFewOld after ch)

-- a modem ticks at a minislot of a channel, and what it sends is told
abbrev pub TicksAt : (ch slot random : ℕ) → State → SendingFields → State → SendingFields → Status → Type 0
TicksAt ch slot random v old after new statuses.Done =
    (slot < 2 ^ 63) × (sending : Option Sending) × AnswersTick ch slot random v sending after × (new ≡ sending_fields sending)
TicksAt ch slot random v old after new statuses.BadField = (2 ^ 63 ≤ slot) × (after ≡ v) × (new ≡ old)
TicksAt ch slot random v old after new statuses.TimeBack =
    (slot < 2 ^ 63) × (c : KnownChannel) × (channel_of v.channels ch ≡ Some c) × (slot < channel_clock c) × (after ≡ v) × (new ≡ old)
TicksAt ch slot random v old after new _ = ⊥

-- the fields that tell what a modem does at a minislot
abbrev pub event_fields : ℕ → Action → EventFields
event_fields slot (Grant sid iuc first last) = record { slot = slot; first = first; last = last; kind = 1; sid = sid; minislots = 0; iuc = iuc }
event_fields slot (Poll sid n) = record { slot = slot; first = 0; last = 0; kind = 2; sid = sid; minislots = n; iuc = 0 }
event_fields slot (Contention sid n) = record { slot = slot; first = 0; last = 0; kind = 3; sid = sid; minislots = n; iuc = 0 }
event_fields slot (LeaseEnd sid) = record { slot = slot; first = 0; last = 0; kind = 4; sid = sid; minislots = 0; iuc = 0 }
event_fields slot (RangingAct sid first last) = record { slot = slot; first = first; last = last; kind = 5; sid = sid; minislots = 0; iuc = 0 }

-- the first minislot of a channel, from one on, whose tick is not quiet, and what it does, are told, if there is one
abbrev pub TellsNext : (ch from : ℕ) → State → EventFields → State → EventFields → Status → Type 0
TellsNext ch from v old after new statuses.Done =
    (from < 2 ^ 63) × (c : KnownChannel) × (channel_of v.channels ch ≡ Some c)
    × (slot : ℕ) × (action : Action) × IsNext v c from slot action × (after ≡ v) × (new ≡ event_fields slot action)
TellsNext ch from v old after new statuses.BadField = (2 ^ 63 ≤ from) × (after ≡ v) × (new ≡ old)
TellsNext ch from v old after new statuses.Absent =
    (from < 2 ^ 63) × IfSome (channel_of v.channels ch) (λ c. AreQuiet v c from (2 ^ 63)) × (after ≡ v) × (new ≡ old)
TellsNext ch from v old after new _ = ⊥

-- the clock of a channel is told, if the modem knows it
abbrev pub TellsClock : (ch : ℕ) → State → ℕ → State → ℕ → Status → Type 0
TellsClock ch v old after new statuses.Done = (option_map channel_clock (channel_of v.channels ch) ≡ Some new) × (after ≡ v)
TellsClock ch v old after new statuses.Absent = (channel_of v.channels ch ≡ None) × (after ≡ v) × (new ≡ old)
TellsClock ch v old after new _ = ⊥
