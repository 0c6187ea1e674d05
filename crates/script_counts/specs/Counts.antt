-- What a report tells of a script: its crashes, its takeovers, and what was offered.
use Rattle.std.specs.Prelude.{◌≡◌, ℕ, ◌+◌, ◌==◌, if◌then◌else◌, List, [], ◌∷◌, ◌++◌, length, map}
use Rattle.grant_machine.specs.declared.command.Command.{Command}
use Rattle.command_log.specs.Spelling.{spelling}
use Rattle.world_events.specs.declared.event.Event.{Event}
use Rattle.world_events.specs.declared.event.Event.TheVariants.{Offer, DeliverThenCrash, Crash}
use Rattle.seats.specs.declared.answer.Answer.{Answer}
use Rattle.seats.specs.declared.answer.Answer.TheVariants.{Sent, Finished}

-- what is read off each event with its answer, in order
abbrev pub read_off : {A : Type 0} → (Event → Answer → List A) → List Event → List Answer → List A
read_off what (event ∷ events) (answer ∷ answers) = what event answer ++ read_off what events answers
read_off what events answers = []

-- an event by which a node crashed as it was to
abbrev pub crash_of : Event → Answer → List Event
crash_of (Crash k) Finished = Crash k ∷ []
crash_of (DeliverThenCrash i) Finished = DeliverThenCrash i ∷ []
crash_of event answer = []

-- how many they are
abbrev pub crashes : List Event → List Answer → ℕ
crashes events answers = length (read_off crash_of events answers)

-- the node that took an offer: it leads, and sent letters
abbrev pub leader_of : Event → Answer → List ℕ
leader_of (Offer k value) (Sent n) = k ∷ []
leader_of event answer = []

-- how often a number isn't the one before it
abbrev pub changes : List ℕ → ℕ
changes (a ∷ b ∷ ks) = (if a == b then 0 else 1) + changes (b ∷ ks)
changes ks = 0

-- how often another node took an offer than the one that took the last one
abbrev pub takeovers : List Event → List Answer → ℕ
takeovers events answers = changes (read_off leader_of events answers)

-- the value of an offer that was taken
abbrev pub value_of : Event → Answer → List (List ℕ)
value_of (Offer k value) (Sent n) = value ∷ []
value_of event answer = []

-- the values of the offers that were taken are the bytes of these commands, in order
abbrev pub OffersAll : List Command → List Event → List Answer → Type 0
OffersAll commands events answers = read_off value_of events answers ≡ map spelling commands
