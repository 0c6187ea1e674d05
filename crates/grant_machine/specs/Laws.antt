-- What holds of every list of commands.
use Rattle.std.specs.Prelude.{◌≡◌, ◌≢◌, ℕ, ◌+◌, ◌-◌, ◌<◌, ◌≤◌, ◌==◌, ◌&&◌, nat_le, Bool, List, ◌++◌, length, take, Some}
use Rattle.std.specs.Prelude.{slice_get}
use Rattle.std.specs.List.{filter, AllZip, AllByRecursion, Contains}
use Rattle.std.specs.List.Sorted.{IsStrictlyIncreasing}
use Rattle.flow_state.specs.declared.channel.Channel.{Channel}
use Rattle.flow_state.specs.declared.channel.ChannelRow.{ChannelRow}
use Rattle.flow_state.specs.Rows.{Rows, channel_at}
use Rattle.flow_state.specs.Firm.{AreFirm}
use Rattle.flow_state.specs.declared.flow.FlowKind.{FlowKind}
use Rattle.flow_state.specs.declared.flow.FlowKind.TheVariants.{BestEffort, Ugs, Poll, Station, Initial}
use Rattle.flow_state.specs.Limits.{due_time, last_sid}
use Rattle.map_body.specs.declared.element.Element.{Element}
use Rattle.map_body.specs.Iucs as iucs
use Rattle.map_body.specs.Sids.{everybody}
use Rattle.map_body.specs.Body.{Body}
use Rattle.map_body.specs.Layout.{IsBody, IsWritten}
use Rattle.map_body.specs.Cell.{IsCell}
use Rattle.grant_machine.specs.declared.command.Command.{Command}
use Rattle.grant_machine.specs.declared.command.Command.TheVariants as commands
use Rattle.grant_machine.specs.declared.output.Output.{Output}
use Rattle.grant_machine.specs.declared.output.Output.TheVariants as outputs
use Rattle.grant_machine_parts.specs.Cutting.{grant_iuc, unsolicited_iuc, poll_iuc}
use Rattle.grant_machine_parts.specs.Drawing.{told_sid}
use Rattle.grant_machine_parts.specs.declared.placing.Cause.{Cause}
use Rattle.grant_machine_parts.specs.declared.placing.Cause.TheVariants.{Window, Sent}
use Rattle.grant_machine.specs.Fits.{FitsCommand}
use Rattle.grant_machine.specs.Runs.{outputs_from, rows_from, outputs_of, rows_after, Grant, grants_of}
use Rattle.grant_machine.specs.Owner.{Owns, IsMapOf}

-- output number k is this MAP
abbrev pub IsMapAt : List Command → ℕ → (ch start len : ℕ) → List ℕ → Type 0
IsMapAt cs k ch start len bytes = slice_get (outputs_of cs) k ≡ Some (outputs.Map ch start len bytes)

-- minislot m lies in a MAP of these bounds
abbrev pub InMap : (start len m : ℕ) → Type 0
InMap start len m = (start ≤ m) × (m < start + len)

-- a minislot of a channel lies in one MAP at most
abbrev pub MapsAreDisjoint : Type 0
MapsAreDisjoint =
    (cs : List Command) (j k ch m start len start' len' : ℕ) (bytes bytes' : List ℕ)
    → IsMapAt cs j ch start len bytes → IsMapAt cs k ch start' len' bytes'
    → InMap start len m → InMap start' len' m → j ≡ k

-- output number k tells the modem a lease of this SID, from its first minislot to its last one
abbrev pub IsLeasedAt : List Command → ℕ → (modem ch sid first last : ℕ) → Type 0
IsLeasedAt cs k modem ch sid first last = slice_get (outputs_of cs) k ≡ Some (outputs.Assigned modem ch sid first last)

-- minislot m lies in a lease of these bounds
abbrev pub InLease : (first last m : ℕ) → Type 0
InLease first last m = (first ≤ m) × (m ≤ last)

-- the leases of one SID share no minislot: those that do are the same lease of the same modem
abbrev pub LeasesAreApart : Type 0
LeasesAreApart =
    (cs : List Command) (j k modem modem' ch sid first last first' last' m : ℕ)
    → IsLeasedAt cs j modem ch sid first last → IsLeasedAt cs k modem' ch sid first' last'
    → InLease first last m → InLease first' last' m → (modem ≡ modem') × (first ≡ first') × (last ≡ last')

-- command number k is a request that was accepted
pub record IsAcceptedAt (cs : List Command) (k ch sid n sent : ℕ) : Type 0 where
  pub asked : slice_get cs k ≡ Some (commands.Request ch sid n sent)
  pub accepted : slice_get (outputs_of cs) k ≡ Some outputs.Nothing

-- grant number k is of the request that was sent at this time
pub record IsGrantedAt (cs : List Command) (k : ℕ) (g : Grant) (ch sid sent : ℕ) : Type 0 where
  pub grant : slice_get (grants_of cs) k ≡ Some g
  pub channel : g.channel ≡ ch
  pub sid_is : g.sid ≡ sid
  pub cause : g.cause ≡ Sent sent

-- a request is accepted once at most, and granted once at most; what is granted was accepted, and is granted whole
pub record RequestsAreGrantedOnce : Type 0 where
  pub accepted_once : (cs : List Command) (j k ch sid n n' sent : ℕ)
      → IsAcceptedAt cs j ch sid n sent → IsAcceptedAt cs k ch sid n' sent → j ≡ k
  pub granted_once : (cs : List Command) (j k ch sid sent : ℕ) (g h : Grant)
      → IsGrantedAt cs j g ch sid sent → IsGrantedAt cs k h ch sid sent → j ≡ k
  pub whole : (cs : List Command) (k ch sid sent : ℕ) (g : Grant)
      → IsGrantedAt cs k g ch sid sent → (j : ℕ) × IsAcceptedAt cs j ch sid g.size sent

-- a SID of a channel, leased from its first minislot to its last one
pub record LeasedSid : Type 0 where
  pub channel : ℕ
  pub sid : ℕ
  pub first : ℕ
  pub last : ℕ

-- command number k added a flow of this kind under this lease, and no earlier one told the lease
pub record IsAddedAt (cs : List Command) (k : ℕ) (lease : LeasedSid) (kind : FlowKind) : Type 0 where
  pub modem : ℕ
  pub tag : ℕ
  pub asked : slice_get cs k ≡ Some (commands.Flow lease.channel modem tag lease.last kind)
  pub added : IsLeasedAt cs k modem lease.channel lease.sid lease.first lease.last
  pub new : (j other : ℕ) → j < k → ¬ IsLeasedAt cs j other lease.channel lease.sid lease.first lease.last

-- the grant is to the SID, and begins within the lease
abbrev pub is_grant_to : LeasedSid → Grant → Bool
is_grant_to lease g = (g.channel == lease.channel) && (g.sid == lease.sid) && nat_le lease.first g.start && nat_le g.start lease.last

-- the grants under a lease in order
abbrev pub grants_to : List Command → LeasedSid → List Grant
grants_to cs lease = filter (is_grant_to lease) (grants_of cs)

-- the whole grant lies within the lease
pub record IsWithin (lease : LeasedSid) (g : Grant) : Type 0 where
  pub channel : g.channel ≡ lease.channel
  pub sid_is : g.sid ≡ lease.sid
  pub begun : lease.first ≤ g.start
  pub ended : g.start + g.size ≤ lease.last + 1

-- each grant lies whole within a lease of its SID that was told
abbrev pub GrantsAreLeased : Type 0
GrantsAreLeased =
    (cs : List Command) (k : ℕ) (g : Grant) → slice_get (grants_of cs) k ≡ Some g
    → (lease : LeasedSid) × (modem : ℕ) × IsWithin lease g × Contains (outputs_of cs) (outputs.Assigned modem lease.channel lease.sid lease.first lease.last)

-- the grant is of this size, and begins from due time number i to jitter after it
pub record IsDueGrant (kind : FlowKind) (size jitter : ℕ) (g : Grant) (i : ℕ) : Type 0 where
  pub whole : g.size ≡ size
  pub not_early : due_time kind i ≤ g.start
  pub not_late : g.start ≤ due_time kind i + jitter

-- the grants of an unsolicited grant flow under its lease, in order, begin within the jitter of due times whose numbers
-- rise
abbrev pub UnsolicitedGrantsAreDue : Type 0
UnsolicitedGrantsAreDue =
    (cs : List Command) (k : ℕ) (lease : LeasedSid) (size interval jitter base : ℕ)
    → IsAddedAt cs k lease (Ugs size interval jitter base)
    → (numbers : List ℕ) × IsStrictlyIncreasing numbers
    × AllZip (IsDueGrant (Ugs size interval jitter base) size jitter) (grants_to cs lease) numbers

-- the grant is at due time number i of a flow of this kind: an unsolicited grant, a poll of one minislot, or an interval
-- of station or of initial maintenance
abbrev pub IsServedAt : FlowKind → Grant → ℕ → Type 0
IsServedAt (BestEffort priority) g i = ⊥
IsServedAt (Ugs size interval jitter base) g i = IsDueGrant (Ugs size interval jitter base) size jitter g i
IsServedAt (Poll interval jitter base) g i = IsDueGrant (Poll interval jitter base) 1 jitter g i
IsServedAt (Station size interval jitter base) g i = IsDueGrant (Station size interval jitter base) size jitter g i
IsServedAt (Initial size interval jitter base) g i = IsDueGrant (Initial size interval jitter base) size jitter g i

-- the grant is at due time number i of a flow that was added under a lease in which it lies
pub record IsOfFlow (cs : List Command) (g : Grant) (i : ℕ) : Type 0 where
  pub place : ℕ
  pub lease : LeasedSid
  pub kind : FlowKind
  pub added : IsAddedAt cs place lease kind
  pub within : IsWithin lease g
  pub served : IsServedAt kind g i

-- what isn't granted to a request is granted at a due time of a flow
abbrev pub OtherGrantsAreDue : Type 0
OtherGrantsAreDue = (cs : List Command) (k i : ℕ) (g : Grant) → slice_get (grants_of cs) k ≡ Some g → g.cause ≡ Window i → IsOfFlow cs g i

-- the channel's row as the commands before number k leave it
abbrev pub IsRowAt : List Command → (k ch : ℕ) → ChannelRow → Type 0
IsRowAt cs k ch row = channel_at (rows_after (take k cs)) ch ≡ Some row

-- the use of a grant of this size at a due time of a flow of this kind: an unsolicited grant's by its size, a poll's, or
-- that of station or of initial maintenance
abbrev pub IsDueUseOf : Channel → FlowKind → (size iuc : ℕ) → Type 0
IsDueUseOf c (BestEffort priority) size iuc = ⊥
IsDueUseOf c (Ugs flow_size interval jitter base) size iuc = iuc ≡ unsolicited_iuc c size
IsDueUseOf c (Poll interval jitter base) size iuc = iuc ≡ poll_iuc
IsDueUseOf c (Station flow_size interval jitter base) size iuc = iuc ≡ iucs.station_maintenance
IsDueUseOf c (Initial flow_size interval jitter base) size iuc = iuc ≡ iucs.initial_maintenance

-- the use of a grant on its channel: to a request by its size, at a due time by the kind of the flow that it serves
abbrev pub IsUseOf : List Command → Channel → Grant → (iuc : ℕ) → Cause → Type 0
IsUseOf cs c g iuc (Sent time) = iuc ≡ grant_iuc c g.size
IsUseOf cs c g iuc (Window i) = (served : IsOfFlow cs g i) × IsDueUseOf c served.kind g.size iuc

-- the grant is told: a MAP's body gives each of its minislots to its SID, or to everybody for initial maintenance, by one
-- element, of the one use of what it serves by its channel's row as it stood at that cut
pub record IsTold (cs : List Command) (g : Grant) : Type 0 where
  pub place : ℕ
  pub start : ℕ
  pub len : ℕ
  pub bytes : List ℕ
  pub map : Body
  pub told : IsMapAt cs place g.channel start len bytes
  pub body : IsWritten bytes map
  pub begun : start ≤ g.start
  pub ended : g.start + g.size ≤ start + len
  pub row : ChannelRow
  pub stood : IsRowAt cs place g.channel row
  pub iuc : ℕ
  pub use_is : IsUseOf cs row.channel g iuc g.cause
  pub cell : (m : ℕ) → g.start ≤ m → m < g.start + g.size
      → IsCell map (m - start) (record { sid = told_sid g.sid iuc; iuc = iuc; offset = g.start - start })

-- each grant is told by the MAP that placed it
abbrev pub GrantsAreTold : Type 0
GrantsAreTold = (cs : List Command) (k : ℕ) (g : Grant) → AllByRecursion FitsCommand cs → slice_get (grants_of cs) k ≡ Some g → IsTold cs g

-- the other way: a unicast SID's cell before the Null is in a grant to it
pub record IsTakenFrom (cs : List Command) (ch sid m : ℕ) : Type 0 where
  pub place : ℕ
  pub grant : Grant
  pub given : slice_get (grants_of cs) place ≡ Some grant
  pub channel : grant.channel ≡ ch
  pub sid_is : grant.sid ≡ sid
  pub begun : grant.start ≤ m
  pub not_ended : m < grant.start + grant.size

-- what a MAP gives to one SID is part of a grant to it: MAPs give nothing else but to every modem
abbrev pub CellsAreGranted : Type 0
CellsAreGranted =
    (cs : List Command) (k ch start len m : ℕ) (bytes : List ℕ) (map : Body) (e : Element)
    → IsMapAt cs k ch start len bytes → IsBody bytes map
    → start ≤ m → IsCell map (m - start) e → e.sid ≢ everybody → IsTakenFrom cs ch e.sid m

-- one output a command, and those of a longer list begin with those of its beginning
pub record OutputsGoOn : Type 0 where
  pub one_each : (cs : List Command) → length (outputs_of cs) ≡ length cs
  pub go_on : (cs more : List Command) (p : ℕ) (output : Output) → slice_get (outputs_of cs) p ≡ Some output → slice_get (outputs_of (cs ++ more)) p ≡ Some output

-- two lists of commands, one behind the other, from some rows: the outputs are those of the first, and then those of the
-- second from the rows that the first leaves, and so are the rows
pub record GoOnFrom (opening : Rows) (cs ds : List Command) : Type 0 where
  pub outputs : outputs_from opening (cs ++ ds) ≡ outputs_from opening cs ++ outputs_from (rows_from opening cs) ds
  pub rows : rows_from opening (cs ++ ds) ≡ rows_from (rows_from opening cs) ds

abbrev pub PartsAreWhole : Type 0
PartsAreWhole = (opening : Rows) (cs ds : List Command) → GoOnFrom opening cs ds

-- each MAP's bytes are its body
abbrev pub MapsAreBodies : Type 0
MapsAreBodies =
    (cs : List Command) (ch start len : ℕ) (bytes : List ℕ)
    → AllByRecursion FitsCommand cs → Contains (outputs_of cs) (outputs.Map ch start len bytes) → IsMapOf ch start len bytes

-- so are those of a scheduler that began at rows which commands could leave
abbrev pub MapsAreBodiesFrom : Type 0
MapsAreBodiesFrom =
    (opening : Rows) (cs : List Command) (ch start len : ℕ) (bytes : List ℕ)
    → AreFirm opening → AllByRecursion FitsCommand cs → Contains (outputs_from opening cs) (outputs.Map ch start len bytes) → IsMapOf ch start len bytes

-- two MAPs of a channel that share a minislot are the same
abbrev pub SharedMapsAreOne : Type 0
SharedMapsAreOne =
    (cs : List Command) (ch m start len start' len' : ℕ) (bytes bytes' : List ℕ)
    → Contains (outputs_of cs) (outputs.Map ch start len bytes) → Contains (outputs_of cs) (outputs.Map ch start' len' bytes')
    → InMap start len m → InMap start' len' m → (start ≡ start') × (len ≡ len') × (bytes ≡ bytes')

-- SIDs that are given are unicast ones
abbrev pub SidsAreUnicast : Type 0
SidsAreUnicast = (cs : List Command) (modem ch sid first last : ℕ) → Contains (outputs_of cs) (outputs.Assigned modem ch sid first last) → (1 ≤ sid) × (sid ≤ last_sid)

-- a minislot has one owner at most
abbrev pub OwnersAreOne : Type 0
OwnersAreOne = (cs : List Command) (ch m a b : ℕ) → Owns (outputs_of cs) ch m a → Owns (outputs_of cs) ch m b → a ≡ b
