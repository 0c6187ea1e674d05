-- The kinds of the tables in a plan and in a script.
use Rattle.std.specs.Prelude.{ℕ, List, [], ◌∷◌, Option, codes, bytes_eq, find}
use Rattle.text_faults.specs.declared.kind.Kind.{Kind}
use Rattle.text_faults.specs.declared.kind.Kind.TheVariants.{Plan, Script, Modem, Command, Event, Noop}
use Rattle.text_faults.specs.declared.kind.Kind.TheVariants.{Channel, Change}
use Rattle.text_faults.specs.declared.kind.Kind.TheVariants.{Flow, Drop, Request, Cut, BestEffort, Ugs, Poll, Station}
use Rattle.text_faults.specs.declared.kind.Kind.TheVariants.{Initial, Tdma, Advanced, Lead, Offer, Tell, Deliver}
use Rattle.text_faults.specs.declared.kind.Kind.TheVariants.{DeliverThenCrash, Crash, Restart, Release, Hear, Want}
use Rattle.text_faults.specs.declared.kind.Kind.TheVariants.{Tick, Numbered, Named, Unnamed, Prepare, Promise, Accept}
use Rattle.text_faults.specs.declared.kind.Kind.TheVariants.{Voted, Higher, Known, DeliverAll, Excepted, Boundless}
use Rattle.text_faults.specs.declared.kind.Group.{Group}
use Rattle.text_faults.specs.declared.kind.Group.TheVariants.{Commands, Services, Phys, Events, Notes}

-- what a kind is called
abbrev pub kind_name : Kind → List ℕ
kind_name Plan = codes "plan"
kind_name Script = codes "script"
kind_name Modem = codes "modem"
kind_name Command = codes "command"
kind_name Event = codes "event"
kind_name Noop = codes "noop"
kind_name Channel = codes "channel"
kind_name Change = codes "change"
kind_name Flow = codes "flow"
kind_name Drop = codes "drop"
kind_name Request = codes "request"
kind_name Cut = codes "cut"
kind_name BestEffort = codes "best_effort"
kind_name Ugs = codes "ugs"
kind_name Poll = codes "poll"
kind_name Station = codes "station"
kind_name Initial = codes "initial"
kind_name Tdma = codes "tdma"
kind_name Advanced = codes "advanced"
kind_name Lead = codes "lead"
kind_name Offer = codes "offer"
kind_name Tell = codes "tell"
kind_name Deliver = codes "deliver"
kind_name DeliverThenCrash = codes "deliver_then_crash"
kind_name DeliverAll = codes "deliver_all"
kind_name Crash = codes "crash"
kind_name Restart = codes "restart"
kind_name Release = codes "release"
kind_name Hear = codes "hear"
kind_name Want = codes "want"
kind_name Tick = codes "tick"
kind_name Numbered = codes "numbered"
kind_name Named = codes "named"
kind_name Unnamed = codes "unnamed"
kind_name Excepted = codes "excepted"
kind_name Boundless = codes "boundless"
kind_name Prepare = codes "prepare"
kind_name Promise = codes "promise"
kind_name Accept = codes "accept"
kind_name Voted = codes "voted"
kind_name Higher = codes "higher"
kind_name Known = codes "known"

-- the kinds of a group
abbrev pub kinds_of : Group → List Kind
kinds_of Commands = Noop ∷ Channel ∷ Change ∷ Flow ∷ Drop ∷ Request ∷ Cut ∷ []
kinds_of Services = BestEffort ∷ Ugs ∷ Poll ∷ Station ∷ Initial ∷ []
kinds_of Phys = Tdma ∷ Advanced ∷ []
kinds_of Events = Lead ∷ Offer ∷ Tell ∷ Deliver ∷ DeliverThenCrash ∷ DeliverAll ∷ Crash ∷ Restart ∷ Release ∷ Hear ∷ Want ∷ Tick ∷ []
kinds_of Notes = Prepare ∷ Promise ∷ Accept ∷ Voted ∷ Higher ∷ Known ∷ []

-- the kind of a group with this name
abbrev pub named : Group → List ℕ → Option Kind
named group name = find (λ kind. bytes_eq (kind_name kind) name) (kinds_of group)
