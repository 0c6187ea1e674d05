-- What the commands of a plan gave, as far as MAPs show it: a deed for each command.
use Rattle.std.specs.Prelude.{◌≡◌, ℕ, ◌⊎◌, IsTrue, List, [], ◌∷◌, flat_map}
use Rattle.std.specs.List.{AllByRecursion, Contains}
use Rattle.map_body.specs.Body.{Body}
use Rattle.map_body.specs.Intervals.{intervals}
use Rattle.map_body.specs.Layout.{IsBody, FirstFault}
use Rattle.map_body.specs.declared.fault.MapFault.{MapFault}
use Rattle.map_body.specs.declared.fault.MapFault.TheVariants.{Short, Trailing, Expansion, OutOfOrder, NoNull}
use Rattle.map_body.specs.declared.fault.MapFault.TheVariants.{OutOfMemory, TooMany}
use Rattle.flow_state.specs.Rows.{Rows}
use Rattle.flow_state.specs.Firm.{AreFirm}
use Rattle.grant_machine.specs.declared.command.Command.{Command}
use Rattle.grant_machine.specs.declared.command.Command.TheVariants as commands
use Rattle.grant_machine.specs.declared.output.Output.{Output}
use Rattle.grant_machine.specs.declared.output.Output.TheVariants as outputs
use Rattle.grant_machine.specs.Fits.{FitsCommand}
use Rattle.grant_machine.specs.Runs.{outputs_from}
use Rattle.plan_account.specs.Cover.{follow}
use Rattle.plan_account.specs.Shown.{Shown, shown_by}
use Rattle.plan_account.specs.declared.deed.Deed.{Deed}
use Rattle.plan_account.specs.declared.deed.Deed.TheVariants as deeds

-- what a command did that gave nothing to tell of
abbrev pub quiet_deed : Command → Deed
quiet_deed (commands.Request ch sid n sent) = deeds.Request ch sid n sent
quiet_deed (commands.Change ch s) = deeds.Other
quiet_deed (commands.Drop ch sid) = deeds.Drop ch sid
quiet_deed commands.Noop = deeds.Other
quiet_deed (commands.Channel c) = deeds.Other
quiet_deed (commands.Flow ch modem tag last kind) = deeds.Other
quiet_deed (commands.Cut ch len not_before ack keep ranging sending) = deeds.Other

-- the channel that a command sets; one that changes was set before
abbrev pub channel_deed : Command → ℕ → Deed
channel_deed (commands.Channel c) ch = deeds.Channel ch
channel_deed other ch = deeds.Other

-- the flow that a command asks for, under the lease of its SID
abbrev pub flow_deed : Command → (modem ch sid first last : ℕ) → Deed
flow_deed (commands.Flow c m tag l kind) modem ch sid first last = deeds.Flow ch sid modem first last kind
flow_deed (commands.Change c s) modem ch sid first last = deeds.Other
flow_deed (commands.Request c s n sent) modem ch sid first last = deeds.Other
flow_deed (commands.Drop c s) modem ch sid first last = deeds.Other
flow_deed commands.Noop modem ch sid first last = deeds.Other
flow_deed (commands.Channel c) modem ch sid first last = deeds.Other
flow_deed (commands.Cut c len not_before ack keep ranging sending) modem ch sid first last = deeds.Other

-- how many minislots a command keeps free of its MAP
abbrev pub keep_of : Command → ℕ
keep_of (commands.Cut ch len not_before ack keep ranging sending) = keep
keep_of other = 0

-- what a MAP of so many minislots shows, by the body that its bytes are: that has each of its minislots
abbrev pub IsWhole : ℕ → List ℕ → Shown → Type 0
IsWhole len bytes m = (body : Body) × IsBody bytes body × IsTrue (follow 0 (intervals body.elements) len) × (m ≡ shown_by body)

-- what a command with this output did
abbrev pub IsDeedOf : Command → Output → Deed → Type 0
IsDeedOf c outputs.Nothing d = d ≡ quiet_deed c
IsDeedOf c (outputs.ChannelSet ch ucd) d = d ≡ channel_deed c ch
IsDeedOf c (outputs.Assigned modem ch sid first last) d = d ≡ flow_deed c modem ch sid first last
IsDeedOf c (outputs.Map ch start len bytes) d = (m : Shown) × IsWhole len bytes m × (d ≡ deeds.Map ch start len (keep_of c) m)
IsDeedOf c (outputs.Refused number) d = d ≡ deeds.Other

-- why there is no body of so many minislots: the first fault of bytes that are none; a body that leaves a minislot out
-- is OutOfOrder 0; and of bytes that are a body nothing else but want of memory
abbrev pub BodyFault : ℕ → List ℕ → MapFault → Type 0
BodyFault len bytes (OutOfOrder i) =
    FirstFault bytes (OutOfOrder i) ⊎ ((i ≡ 0) × (body : Body) × IsBody bytes body × ¬ IsTrue (follow 0 (intervals body.elements) len))
BodyFault len bytes OutOfMemory = (body : Body) × IsBody bytes body
BodyFault len bytes Short = FirstFault bytes Short
BodyFault len bytes Trailing = FirstFault bytes Trailing
BodyFault len bytes (Expansion i) = FirstFault bytes (Expansion i)
BodyFault len bytes NoNull = FirstFault bytes NoNull
BodyFault len bytes TooMany = ⊥

-- why there is no deed of an output: its MAP's bytes alone can be at fault
abbrev pub IsDeedFault : Output → MapFault → Type 0
IsDeedFault (outputs.Map ch start len bytes) fault = BodyFault len bytes fault
IsDeedFault outputs.Nothing fault = ⊥
IsDeedFault (outputs.ChannelSet ch ucd) fault = ⊥
IsDeedFault (outputs.Assigned modem ch sid first last) fault = ⊥
IsDeedFault (outputs.Refused number) fault = ⊥

-- those of commands with their outputs, one for each
abbrev pub AreDeeds : List Command → List Output → List Deed → Type 0
AreDeeds [] [] [] = Unit {0}
AreDeeds (c ∷ cs) (o ∷ os) (d ∷ ds) = IsDeedOf c o d × AreDeeds cs os ds
AreDeeds [] [] (d ∷ ds) = ⊥
AreDeeds [] (o ∷ os) ds = ⊥
AreDeeds (c ∷ cs) [] ds = ⊥
AreDeeds (c ∷ cs) (o ∷ os) [] = ⊥

-- a scheduler's MAP has each of its minislots, so there is a deed of each of its outputs, from tables on that commands
-- could leave
abbrev pub OutputsHaveDeeds : Type 0
OutputsHaveDeeds =
    (opening : Rows) (cs : List Command) (c : Command) (o : Output)
    → AreFirm opening → AllByRecursion FitsCommand cs → Contains (outputs_from opening cs) o → (d : Deed) × IsDeedOf c o d

-- the channels that deeds set, in order
abbrev pub channel_in : Deed → List ℕ
channel_in (deeds.Channel ch) = ch ∷ []
channel_in (deeds.Flow ch sid modem first last kind) = []
channel_in (deeds.Drop ch sid) = []
channel_in (deeds.Request ch sid n sent) = []
channel_in (deeds.Map ch start len keep map) = []
channel_in deeds.Other = []

abbrev pub channels_of : List Deed → List ℕ
channels_of ds = flat_map channel_in ds
