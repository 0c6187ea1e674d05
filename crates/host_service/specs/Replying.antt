-- What a host replies to a line.
use Rattle.std.specs.Prelude.{◌≡◌, ◌⊎◌, ℕ, Bool, true, false, ◌++◌, nat_le, nat_lt, if◌then◌else◌, List, length, Some}
use Rattle.std.specs.Prelude.{Result, Ok, Err, IfErr, IfOk, OnOk, Vec}
use Rattle.std.specs.declared.alloc.AllocError.{AllocError}
use Rattle.std.specs.declared.alloc.Global.{Global}
use Rattle.grant_machine.specs.declared.output.Output.{Output}
use Rattle.hosts.specs.Acting.{ActsIn, IsAskedIn, IsRefusedSo}
use Rattle.hosts.specs.Hosts.{AreMembers, IsHonest, KeepsTrust, SameHost, StandsAs, are_up, begins_of, member_of}
use Rattle.hosts.specs.Hosts.{number_of, places_of, seat_of}
use Rattle.hosts.specs.Joining.{Joins, JoinsAs, StaysFor}
use Rattle.hosts.specs.Keeping.{FailsToKeep, HaveKept}
use Rattle.hosts.specs.States.{IsStateOf}
use Rattle.hosts.specs.Views.{HostView, MovesIn, Releases, TellsAgain}
use Rattle.hosts.specs.declared.acted.Given.{Given}
use Rattle.hosts.specs.declared.acted.Given.TheVariants.{Outputs, Failed}
use Rattle.hosts.specs.declared.acted.HostActed.{HostActed}
use Rattle.hosts.specs.declared.acted.HostActed.TheVariants.{Of}
use Rattle.hosts.specs.declared.fault.JoinFault.{JoinFault}
use Rattle.hosts.specs.declared.fault.JoinFault.TheVariants as cant_join
use Rattle.hosts.specs.declared.host.Host.{Host}
use Rattle.hosts.specs.declared.opens.Opens.{Ghosts}
use Rattle.node.specs.declared.node.Node.{Ghosts as Nodes}
use Rattle.node_lines.specs.Lines.{Asks, BeginsOther, IsRefused, release_word}
use Rattle.node_lines.specs.declared.fault.LineFault.{LineFault}
use Rattle.node_lines.specs.declared.fault.LineFault.TheVariants as fault
use Rattle.node_lines.specs.declared.request.Request.{Request}
use Rattle.node_lines.specs.declared.request.Request.TheVariants as request
use Rattle.node_service.specs.Seated.{asked_of}
use Rattle.node_service.specs.declared.keeper.Keeper.{Ghosts as Keepers}
use Rattle.node_service.specs.declared.outgoing.Reply.TheVariants as reply
use Rattle.proposer.specs.declared.fault.NodeFault.{NodeFault}
use Rattle.proposer.specs.declared.fault.NodeFault.TheVariants.{OutOfMemory}
use Rattle.seats.specs.Moves.{Ask}
use Rattle.seats.specs.Occupant.{node_of}
use Rattle.seats.specs.declared.seat.Seat.{Seat}
use Rattle.seats.specs.declared.acted.Acted.TheVariants as came
use Rattle.host_service.specs.Asking.{AsksHost, AsksNoHost, is_apart}
use Rattle.host_service.specs.Numbers.{HasNoNumber, IsNumbered}
use Rattle.host_service.specs.declared.asked.HostRequest.{HostRequest}
use Rattle.host_service.specs.declared.asked.HostRequest.TheVariants as ask
use Rattle.host_service.specs.declared.number.EpochNumber.{EpochNumber}
use Rattle.host_service.specs.declared.reply.HostReply.{HostReply}
use Rattle.host_service.specs.declared.reply.HostReply.TheVariants.{There, Begins, InEpoch, Released, State}
use Rattle.host_service.specs.declared.reply.HostReply.TheVariants.{StateTooLong, Joined, NoState, Again, AsNode}
use Rattle.host_service.specs.declared.reply.TheConstants.{LONGEST_STATE}
use Rattle.host_service.specs.declared.service.HostServer.{HostServer}

-- the host that replies
abbrev pub host_of : {O N : Type 0} {g : Ghosts O N} {h : Nodes N} → HostServer O N g h → Host O N g h
host_of server = server.host

-- to release
abbrev pub is_release : Request → Bool
is_release request.Lead = false
is_release (request.Offer value) = false
is_release (request.Release now) = true
is_release (request.Letter l) = false
is_release (request.Tell to place) = false

-- behind a number this is asked of a node; to release is not asked there
pub record IsAskedOfNode (rest : List ℕ) (asked : Request) : Type 0 where
  pub asks : Asks rest asked
  pub other : is_release asked ≡ false

-- or nothing, for this fault
abbrev pub IsNotAskedOfNode : List ℕ → LineFault → Type 0
IsNotAskedOfNode rest why = IsRefused rest why ⊎ ((why ≡ fault.NoLine) × (now : ℕ) × Asks rest (request.Release now))

-- a line without a number asks no release, for this fault
abbrev pub IsNoRelease : List ℕ → LineFault → Type 0
IsNoRelease line why =
    ((why ≡ fault.NoLine) × BeginsOther release_word line) ⊎ ((digits : List ℕ) × (line ≡ release_word ++ digits) × IsRefused line why)

-- the host was asked so, in all that its call says
pub record ActsSo {O N : Type 0} {g : Ghosts O N} {h : Nodes N} (old : Host O N g h) (e said : ℕ) (ask : Ask) (acted : HostActed) (new : Host O N g h) : Type 0 where
  pub acts : ActsIn old e said ask acted new
  pub same : SameHost old new
  pub members : AreMembers old → AreMembers new
  pub trust : KeepsTrust old new
  pub moves : IsHonest new → AreMembers old → (v : HostView) → StandsAs old v
      → (v' : HostView) × MovesIn (member_of old).1 (member_of old).0 (places_of old) v e said ask acted v' × StandsAs new v'

-- and so was a release
pub record ReleasesSo {O N : Type 0} {g : Ghosts O N} {h : Nodes N} (old : Host O N g h) (now : ℕ) (given : Given) (new : Host O N g h) : Type 0 where
  pub same : SameHost old new
  pub members : AreMembers old → AreMembers new
  pub trust : KeepsTrust old new
  pub moves : IsHonest new → (v : HostView) → StandsAs old v → (v' : HostView) × Releases (begins_of old) g.may_fail (places_of old) v now given v' × StandsAs new v'

-- and so was the state at the start of its own epoch, which came
pub record StatesSo {O N : Type 0} {g : Ghosts O N} {h : Nodes N} (host : Host O N g h) (state : Result (Vec ℕ Global) AllocError) : Type 0 where
  pub is : (v : HostView) → StandsAs host v
      → IfOk state (λ bytes. IsStateOf (member_of host).0 (member_of host).1 (places_of host) v.passed bytes.items)

-- it was given the bytes of a state, and went there or stayed
pub record JoinsSo {O N : Type 0} {g : Ghosts O N} {h : Nodes N} (old : Host O N g h) (bytes : List ℕ) (joined : Result (Unit {0}) JoinFault) (new : Host O N g h) : Type 0 where
  pub joins : OnOk joined (Joins old bytes new)
  pub stays : IfErr joined (λ fault. StaysFor old bytes fault new)
  pub same : SameHost old new
  pub members : AreMembers old → AreMembers new
  pub trust : KeepsTrust old new
  pub moves : IsHonest new → (v : HostView) → StandsAs old v → JoinsAs old v bytes joined new

-- it was asked what modems need that begin anew
pub record AgainSo {O N : Type 0} {g : Ghosts O N} {h : Nodes N} (host : Host O N g h) (outputs : Result (Vec Output Global) AllocError) : Type 0 where
  pub is : (v : HostView) → StandsAs host v → IfOk outputs (λ outputs. TellsAgain (places_of host) v outputs.items)

-- a commit kept all that it did, and did nothing else
pub record CommitsSo {O N : Type 0} {g : Ghosts O N} {h : Nodes N} (old new : Host O N g h) : Type 0 where
  pub same : SameHost old new
  pub members : AreMembers old → AreMembers new
  pub trust : KeepsTrust old new
  pub stands : (v : HostView) → StandsAs old v → StandsAs new v

-- the reply that tells of a commit of an epoch's node that it failed
abbrev pub unkept_reply : EpochNumber → NodeFault → HostReply
unkept_reply number why = InEpoch number (Of (came.Fault why))

-- a commit failed so of the node of an epoch, which is told under the number of that epoch
pub record FailsSo {O N : Type 0} {g : Ghosts O N} {h : Nodes N} (old : Host O N g h) (replied : HostReply) (new : Host O N g h) : Type 0 where
  pub epoch : ℕ
  pub why : NodeFault
  pub fails : FailsToKeep old epoch why new
  pub told : replied ≡ unkept_reply (record { epoch = epoch; places = places_of old }) why

-- where the commit of this epoch failed, a reply may be told all the same: it is of an epoch below, whose node commits
-- before; or its line asked nothing
abbrev pub is_left_below : ℕ → HostReply → Bool
is_left_below failed (InEpoch n acted) = nat_lt n.epoch failed
is_left_below failed (AsNode (reply.Refused why)) = true
is_left_below failed other = false

-- the same by what is told of that commit
abbrev pub may_tell : HostReply → HostReply → Bool
may_tell (InEpoch n acted) replied = is_left_below n.epoch replied
may_tell other replied = false

-- a crash leaves what came of the line that had this reply: all that the node of its epoch did, or the line asked nothing
abbrev pub Leaves : {O N : Type 0} {g : Ghosts O N} {h : Nodes N} → Host O N g h → HostReply → Type 0
Leaves {O} {N} {g} {h} host (InEpoch n acted) = (seat : Seat N h) → seat_of host n.epoch ≡ Some seat → g.has_kept (node_of seat)
Leaves host (AsNode told) = (why : LineFault) × (told ≡ reply.Refused why)
Leaves host other = ⊥

-- the reply that tells a fault
abbrev pub fault_reply : NodeFault → HostReply
fault_reply why = AsNode (reply.Acted (came.Fault why))

-- the reply to a release of a host with so many places in an epoch
abbrev pub reply_of : ℕ → Given → HostReply
reply_of places (Outputs outputs epoch place) = Released (reply.Acted (came.Released outputs)) (record { epoch = epoch; places = places }) place
reply_of places (Failed why) = fault_reply why

-- the reply that tells a state: its bytes, unless they are too many
abbrev pub state_told : List ℕ → HostReply
state_told bytes = if nat_le (length bytes) LONGEST_STATE then State bytes else StateTooLong

abbrev pub state_reply : Result (Vec ℕ Global) AllocError → HostReply
state_reply (Ok bytes) = state_told bytes.items
state_reply (Err lack) = fault_reply OutOfMemory

-- the reply to a state, of a host whose own epoch is this one then
abbrev pub join_reply : ℕ → Result (Unit {0}) JoinFault → HostReply
join_reply epoch (Ok done) = Joined epoch
join_reply epoch (Err cant_join.NoState) = NoState
join_reply epoch (Err (cant_join.Node why)) = fault_reply why

-- the reply that tells outputs again
abbrev pub again_reply : Result (Vec Output Global) AllocError → HostReply
again_reply (Ok outputs) = Again outputs
again_reply (Err lack) = fault_reply OutOfMemory

-- what is behind a number asks this of the node of the epoch, and this came of it
pub record ActsAsAsked {O N : Type 0} {g : Ghosts O N} {h : Nodes N} (old : Host O N g h) (n : EpochNumber) (rest : List ℕ) (acted : HostActed) (new : Host O N g h) : Type 0 where
  pub near : IsAskedIn old n.epoch n.places
  pub asked : Request
  pub asks : IsAskedOfNode rest asked
  pub acts : ActsSo old n.epoch n.places (asked_of asked) acted new

-- the reply to what is behind a number: a refusal by the number, whatever is behind it; what came of what it asks; or why
-- it asks nothing
abbrev pub RepliesIn : {O N : Type 0} {g : Ghosts O N} {h : Nodes N} → Host O N g h → EpochNumber → List ℕ → HostReply → Host O N g h → Type 0
RepliesIn old n rest (There id members places) new = ⊥
RepliesIn old n rest (Begins id members places begins) new = ⊥
RepliesIn old n rest (InEpoch m acted) new = (m ≡ n) × ((IsRefusedSo old n.epoch n.places acted × (new ≡ old)) ⊎ ActsAsAsked old n rest acted new)
RepliesIn old n rest (Released told next place) new = ⊥
RepliesIn old n rest (State bytes) new = ⊥
RepliesIn old n rest StateTooLong new = ⊥
RepliesIn old n rest (Joined epoch) new = ⊥
RepliesIn old n rest NoState new = ⊥
RepliesIn old n rest (Again outputs) new = ⊥
RepliesIn old n rest (AsNode told) new =
    IsAskedIn old n.epoch n.places × ((why : LineFault) × (told ≡ reply.Refused why) × IsNotAskedOfNode rest why × (new ≡ old))

-- a host was asked to release, was given a state, or was asked this, and replied so to what came of it
abbrev pub DoesRelease : {O N : Type 0} {g : Ghosts O N} {h : Nodes N} → Host O N g h → ℕ → HostReply → Host O N g h → Type 0
DoesRelease old now replied new = (given : Given) × ReleasesSo old now given new × (replied ≡ reply_of (places_of old) given)

abbrev pub DoesJoin : {O N : Type 0} {g : Ghosts O N} {h : Nodes N} → Host O N g h → List ℕ → HostReply → Host O N g h → Type 0
DoesJoin old bytes replied new = (joined : Result (Unit {0}) JoinFault) × JoinsSo old bytes joined new × (replied ≡ join_reply (number_of new) joined)

abbrev pub DoesAsked : {O N : Type 0} {g : Ghosts O N} {h : Nodes N} → Host O N g h → HostRequest → HostReply → Host O N g h → Type 0
DoesAsked old (ask.Release now) replied new = DoesRelease old now replied new
DoesAsked old ask.State replied new = (state : Result (Vec ℕ Global) AllocError) × StatesSo old state × (replied ≡ state_reply state) × (new ≡ old)
DoesAsked old (ask.Join bytes) replied new = DoesJoin old bytes replied new
DoesAsked old ask.Again replied new = (outputs : Result (Vec Output Global) AllocError) × AgainSo old outputs × (replied ≡ again_reply outputs) × (new ≡ old)

-- the reply to a line without a number: what came of what it asks, once all that was done before was kept; or why it asks
-- nothing
abbrev pub RepliesAlone : {O N : Type 0} {g : Ghosts O N} {h : Nodes N} → Host O N g h → List ℕ → HostReply → Host O N g h → Type 0
RepliesAlone old line replied new =
    ((asked : HostRequest) × AsksHost line asked × HaveKept old × DoesAsked old asked replied new)
    ⊎ ((why : LineFault) × AsksNoHost line why × (replied ≡ AsNode (reply.Refused why)) × (new ≡ old))

-- the reply to a line, or to one that was let go for this fault
abbrev pub RepliesTo : {O N : Type 0} {g : Ghosts O N} {h : Nodes N} → Host O N g h → Result (List ℕ) LineFault → HostReply → Host O N g h → Type 0
RepliesTo old (Ok line) replied new =
    ((n : EpochNumber) × (rest : List ℕ) × IsNumbered line n rest × RepliesIn old n rest replied new) ⊎ (HasNoNumber line × RepliesAlone old line replied new)
RepliesTo old (Err why) replied new = (replied ≡ AsNode (reply.Refused why)) × (new ≡ old)

-- a host as what replies to lines: its nodes keep what they did by commits, and what is asked of the host itself is done
-- apart
abbrev pub host_keeper : {O N : Type 0} {g : Ghosts O N} {h : Nodes N} → Keepers (HostServer O N g h) HostReply
host_keeper = record {
  up = λ server. are_up (host_of server);
  replies = λ old came replied new. RepliesTo (host_of old) came replied (host_of new);
  has_noted = λ server. Unit {0};
  is_apart = is_apart;
  has_room = λ server. Unit {0};
  has_kept = λ server. HaveKept (host_of server);
  commits = λ old new. CommitsSo (host_of old) (host_of new);
  fails = λ old told new. FailsSo (host_of old) told (host_of new);
  may_tell = may_tell;
  leaves = λ server replied. Leaves (host_of server) replied;
}
