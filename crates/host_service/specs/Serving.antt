-- What a host does with the lines that it reads.
use Rattle.std.specs.Prelude.{◌≡◌, ◌⊎◌, ℕ, ◌+◌, ◌-◌, ◌<◌, ◌^◌, true, List, [], ◌∷◌, ◌++◌, length, All, IsTrue, Vec}
use Rattle.std.specs.declared.alloc.Global.{Global}
use Rattle.std.specs.Io.KnownBytes.{Appends, Consumes}
use Rattle.acceptor.specs.Content.{Content}
use Rattle.epochs.specs.Epochs.{AreFull}
use Rattle.grant_machine.specs.declared.output.Output.{Output as Told}
use Rattle.hosts.specs.Hosts.{begins_of, member_of, places_of}
use Rattle.hosts.specs.States.{IsStateOf}
use Rattle.hosts.specs.Views.{AreBegun, HostView, IsNear, MovesIn, Releases, TellsAgain, first_lacked}
use Rattle.hosts.specs.Views.{joined as joined_at, number as number_at}
use Rattle.hosts.specs.declared.acted.Given.{Given}
use Rattle.hosts.specs.declared.acted.HostActed.{HostActed}
use Rattle.hosts.specs.declared.acted.HostActed.TheVariants.{Of, Ended, Ahead, Gone, OtherPlaces}
use Rattle.hosts.specs.declared.host.Host.{Host}
use Rattle.hosts.specs.declared.opens.Opens.{Ghosts}
use Rattle.node.specs.declared.node.Node.{Ghosts as Nodes}
use Rattle.node_lines.specs.Input.{IsDropped, IsLine, ReadsLast}
use Rattle.node_lines.specs.Lines.{Asks}
use Rattle.node_lines.specs.declared.fault.LineFault.{LineFault}
use Rattle.node_lines.specs.declared.input.Next.TheVariants as next
use Rattle.node_lines.specs.declared.request.Request.{Request}
use Rattle.node_lines.specs.declared.request.Request.TheVariants as request
use Rattle.node_service.specs.Batched.{FailsToTell, ReadsNoMore, lines_in, text_in}
use Rattle.node_service.specs.Seated.{asked_of}
use Rattle.node_service.specs.declared.batches.BatchedEnd.{BatchedEnd}
use Rattle.node_service.specs.declared.batches.BatchedEnd.TheVariants as ends
use Rattle.node_service.specs.declared.lines.Lines.{Ghosts as Inputs}
use Rattle.node_service.specs.declared.outbox.Outbox.{Ghosts as Outputs}
use Rattle.node_service.specs.declared.outgoing.Reply.TheVariants as reply
use Rattle.proposer.specs.declared.fault.NodeFault.{NodeFault}
use Rattle.proposer.specs.declared.fault.NodeFault.TheVariants.{OutOfMemory}
use Rattle.seats.specs.Moves.{Ask}
use Rattle.host_service.specs.Asking.{AsksHost, AsksNoHost, is_apart}
use Rattle.host_service.specs.Numbers.{HasNoNumber, IsNumbered}
use Rattle.host_service.specs.Replying.{IsAskedOfNode, IsNotAskedOfNode, fault_reply, reply_of, state_told}
use Rattle.host_service.specs.Replying.{unkept_reply}
use Rattle.host_service.specs.declared.asked.HostRequest.TheVariants as host_asked
use Rattle.host_service.specs.Texts.{host_text}
use Rattle.host_service.specs.declared.number.EpochNumber.{EpochNumber}
use Rattle.host_service.specs.declared.reply.HostReply.{HostReply}
use Rattle.host_service.specs.declared.reply.HostReply.TheVariants.{InEpoch, Joined, NoState, Again, AsNode}

-- nodes whose records always return what they committed, as those in memory
abbrev pub NeverLie : {N : Type 0} → Nodes N → Type 0
NeverLie {N} h = (node : N) → IsTrue (h.honest node)

-- the same of those of a host
abbrev pub NeverLies : {O N : Type 0} {g : Ghosts O N} {h : Nodes N} → Host O N g h → Type 0
NeverLies {O} {N} {g} {h} host = NeverLie h

-- behind a number this is asked of a node; it isn't read where the number is refused
abbrev pub IsBehind : List ℕ → HostActed → Ask → Type 0
IsBehind rest (Of acted) ask = (asked : Request) × IsAskedOfNode rest asked × (ask ≡ asked_of asked)
IsBehind rest Ended ask = (asked : Request) × IsAskedOfNode rest asked × (ask ≡ asked_of asked)
IsBehind rest Ahead ask = Unit {0}
IsBehind rest Gone ask = Unit {0}
IsBehind rest OtherPlaces ask = Unit {0}

-- a line had a number, and the host did so in that epoch
pub record ActsAs (members me places : ℕ) (v : HostView) (line : List ℕ) (replied : HostReply) (v' : HostView) : Type 0 where
  pub number : EpochNumber
  pub rest : List ℕ
  pub ask : Ask
  pub acted : HostActed
  pub numbered : IsNumbered line number rest
  pub behind : IsBehind rest acted ask
  pub moves : MovesIn members me places v number.epoch number.places ask acted v'
  pub told : replied ≡ InEpoch number acted

-- a line asked a host to release, whose nodes may begin so and may fail to open so
pub record ReleasesAs (begins : ℕ → Content → Type 0) (may_fail : NodeFault → Type 0) (places : ℕ) (v : HostView) (line : List ℕ) (replied : HostReply) (v' : HostView) : Type 0 where
  pub now : ℕ
  pub given : Given
  pub asks : Asks line (request.Release now)
  pub moves : Releases begins may_fail places v now given v'
  pub told : replied ≡ reply_of places given

-- a line has no number, and gives this state
pub record Gives (line bytes : List ℕ) : Type 0 where
  pub bare : HasNoNumber line
  pub asks : AsksHost line (host_asked.Join bytes)

-- it asked for the state at the start of the host's own epoch, which was told, or memory ran out
pub record StatesAs (members me places : ℕ) (v : HostView) (line : List ℕ) (replied : HostReply) (v' : HostView) : Type 0 where
  pub bare : HasNoNumber line
  pub asks : AsksHost line host_asked.State
  pub told : ((bytes : List ℕ) × IsStateOf me members places v.passed bytes × (replied ≡ state_told bytes)) ⊎ (replied ≡ fault_reply OutOfMemory)
  pub same : v' ≡ v

-- it asked what modems need that begin anew, likewise
pub record AgainAs (places : ℕ) (v : HostView) (line : List ℕ) (replied : HostReply) (v' : HostView) : Type 0 where
  pub bare : HasNoNumber line
  pub asks : AsksHost line host_asked.Again
  pub told : ((outputs : Vec Told Global) × TellsAgain places v outputs.items × (replied ≡ Again outputs)) ⊎ (replied ≡ fault_reply OutOfMemory)
  pub same : v' ≡ v

-- the bytes are the state behind full epochs, as some member tells it
pub record IsToldState (members places : ℕ) (bytes : List ℕ) : Type 0 where
  pub teller : ℕ
  pub passed : List (List (List ℕ))
  pub full : AreFull places passed
  pub is : IsStateOf teller members places passed bytes

-- where a host went to a state at a line, it was the state behind full epochs, as some member tells it
abbrev pub IsToldAt : (members places : ℕ) → List ℕ → HostReply → Type 0
IsToldAt members places line replied = (bytes : List ℕ) (epoch : ℕ) → Gives line bytes → replied ≡ Joined epoch → IsToldState members places bytes

-- it gave a state, which was told so, and the host went to the start of its epoch, which is above its own one; the nodes
-- that it lacked begin so
pub record GoesToState (begins : ℕ → Content → Type 0) (members places : ℕ) (v : HostView) (line : List ℕ) (replied : HostReply) (past : IsToldAt members places line replied) (v' : HostView) : Type 0 where
  pub bytes : List ℕ
  pub epoch : ℕ
  pub gives : Gives line bytes
  pub told : replied ≡ Joined epoch
  pub above : number_at v < epoch
  pub is : epoch ≡ length (past bytes epoch gives told).passed + 1
  pub contents : ℕ → Content
  pub begun : AreBegun begins (first_lacked (number_at v) epoch) (epoch + 1) contents
  pub moves : v' ≡ joined_at places v (past bytes epoch gives told).passed contents

-- or it didn't go: the bytes are no such state, or a node failed to open so, or memory ran out
pub record StaysAs (may_fail : NodeFault → Type 0) (v : HostView) (line : List ℕ) (replied : HostReply) (v' : HostView) : Type 0 where
  pub bytes : List ℕ
  pub gives : Gives line bytes
  pub told : (replied ≡ NoState) ⊎ ((why : NodeFault) × (may_fail why ⊎ (why ≡ OutOfMemory)) × (replied ≡ fault_reply why))
  pub same : v' ≡ v

-- what a line without a number asked, but for a release
abbrev pub AloneAs : (ℕ → Content → Type 0) → (NodeFault → Type 0) → (members me places : ℕ) → HostView → (line : List ℕ) (replied : HostReply) → IsToldAt members places line replied → HostView → Type 0
AloneAs begins may_fail members me places v line replied past v' =
    StatesAs members me places v line replied v'
    ⊎ (AgainAs places v line replied v' ⊎ (GoesToState begins members places v line replied past v' ⊎ StaysAs may_fail v line replied v'))

-- a line asks nothing, for this fault: it was let go; or what is behind its number asks nothing; or it has no number, and
-- asks no host
abbrev pub IsUnasked : (places : ℕ) → HostView → List ℕ → LineFault → Type 0
IsUnasked places v line why =
    IsDropped line why
    ⊎ (((n : EpochNumber) × (rest : List ℕ) × IsNumbered line n rest × (n.places ≡ places) × IsNear v n.epoch × IsNotAskedOfNode rest why)
    ⊎ (HasNoNumber line × AsksNoHost line why))

-- and the host says so, and stays as it is
pub record TurnsAway (places : ℕ) (v : HostView) (line : List ℕ) (replied : HostReply) (v' : HostView) : Type 0 where
  pub why : LineFault
  pub unasked : IsUnasked places v line why
  pub told : replied ≡ AsNode (reply.Refused why)
  pub same : v' ≡ v

-- host me of so many members, with so many places in an epoch, whose nodes may begin so and may fail to open so, which stood
-- at v, replied so to a line, and stands at v'
abbrev pub RepliesAs : (ℕ → Content → Type 0) → (NodeFault → Type 0) → (members me places : ℕ) → HostView → (line : List ℕ) (replied : HostReply) → IsToldAt members places line replied → HostView → Type 0
RepliesAs begins may_fail members me places v line replied past v' =
    ActsAs members me places v line replied v'
    ⊎ (ReleasesAs begins may_fail places v line replied v' ⊎ (AloneAs begins may_fail members me places v line replied past v' ⊎ TurnsAway places v line replied v'))

-- the same of lines, one after another, as long as each state to which the host went was told so
abbrev pub LivesAs : (ℕ → Content → Type 0) → (NodeFault → Type 0) → (members me places : ℕ) → HostView → List (List ℕ × HostReply) → Type 0
LivesAs begins may_fail members me places v [] = Unit {0}
LivesAs begins may_fail members me places v (turn ∷ turns) =
    (past : IsToldAt members places turn.0 turn.1)
    → (between : HostView) × RepliesAs begins may_fail members me places v turn.0 turn.1 past between × LivesAs begins may_fail members me places between turns

-- no line was done behind these: none was read, or one that is done apart
abbrev pub DoesNoMore : {I : Type 0} → Inputs I → I → I → Type 0
DoesNoMore input i i' = ReadsNoMore input i i' ⊎ ((line : List ℕ) × (is_apart line ≡ true) × input.gives i (next.Line line) i')

-- of these lines, which were done, the replies to the first ones were written, in order and whole, and none to the others
pub record TellsSome {I O : Type 0} (input : Inputs I) (output : Outputs O) (turns seen unseen : List (List ℕ × HostReply)) (i : I) (o : O) (i' : I) (sent : O) : Type 0 where
  pub rest : I
  pub read : Consumes (input.bytes_left i) (input.bytes_left rest) (lines_in turns)
  pub no_more : DoesNoMore input rest i'
  pub are : turns ≡ seen ++ unseen
  pub written : Appends (output.bytes_held o) (output.bytes_held sent) (text_in host_text seen)

-- a commit of a host with so many places in an epoch failed so of the node of this one
pub record IsUnkept (many : ℕ) (number : EpochNumber) (why : NodeFault) (text : List ℕ) : Type 0 where
  pub places : number.places ≡ many
  pub told : text ≡ host_text (unkept_reply number why)

-- these lines were done and replied to, and then: no whole line was left; or a node was down; or the input failed; or a
-- commit failed, so that the replies from one on weren't written, but that fault; or these, or the fault, couldn't be
-- written or sent out; or they are all that a run may have
abbrev pub EndsAs : {I O : Type 0} → Inputs I → Outputs O → (places : ℕ) → BatchedEnd → List (List ℕ × HostReply) → I → O → I → O → Type 0
EndsAs {I} {O} input output places ends.Input turns i o i' o' =
    Appends (output.bytes_held o) (output.bytes_held o') (text_in host_text turns)
    × ((rest : I) × (left : List ℕ) × Consumes (input.bytes_left i) (input.bytes_left rest) (lines_in turns) × input.gives rest next.End i'
    × ReadsLast (input.bytes_left rest) (input.bytes_left i') left)
EndsAs {I} {O} input output places ends.Crashed turns i o i' o' =
    Appends (output.bytes_held o) (output.bytes_held o') (text_in host_text turns) × Consumes (input.bytes_left i) (input.bytes_left i') (lines_in turns)
EndsAs {I} {O} input output places ends.Unreadable turns i o i' o' =
    Appends (output.bytes_held o) (output.bytes_held o') (text_in host_text turns)
    × ((rest : I) × Consumes (input.bytes_left i) (input.bytes_left rest) (lines_in turns) × input.fails rest i')
EndsAs {I} {O} input output places ends.Uncommitted turns i o i' o' =
    (seen unseen : List (List ℕ × HostReply)) × (sent : O) × TellsSome input output turns seen unseen i o i' sent
    × ((number : EpochNumber) × (why : NodeFault) × (told : List ℕ) × IsUnkept places number why told × Appends (output.bytes_held sent) (output.bytes_held o') told)
EndsAs {I} {O} input output places (ends.Unwritten why) turns i o i' o' =
    (seen unseen : List (List ℕ × HostReply)) × (sent : O) × TellsSome input output turns seen unseen i o i' sent
    × (output.fails_to_send sent why o'
    ⊎ (((turn : List ℕ × HostReply) × (later : List (List ℕ × HostReply)) × (unseen ≡ turn ∷ later) × output.fails sent (host_text turn.1) why o')
    ⊎ ((number : EpochNumber) × (fault : NodeFault) × (told : List ℕ) × IsUnkept places number fault told × FailsToTell output told why sent o')))
EndsAs {I} {O} input output places ends.Spent turns i o i' o' =
    Appends (output.bytes_held o) (output.bytes_held o') (text_in host_text turns) × Consumes (input.bytes_left i) (input.bytes_left i') (lines_in turns)
    × (length turns ≡ 2 ^ 64 - 1)

-- where a run ended, but for a commit or an output that failed, this is so
abbrev pub IfAllTold : BatchedEnd → Type 0 → Type 0
IfAllTold ends.Uncommitted so = Unit {0}
IfAllTold (ends.Unwritten why) so = Unit {0}
IfAllTold other so = so

-- a host that stood at v, whose nodes may begin so and may fail to open so, served an input and an output so, and ended so
pub record ServesAs {I O : Type 0} (input : Inputs I) (output : Outputs O) (begins : ℕ → Content → Type 0) (may_fail : NodeFault → Type 0) (members me places : ℕ) (v : HostView)
    (end : BatchedEnd) (i : I) (o : O) (i' : I) (o' : O) : Type 0 where
  pub turns : List (List ℕ × HostReply)
  pub whole : All (λ turn. IsLine turn.0) turns
  pub lives : LivesAs begins may_fail members me places v turns
  pub ends : EndsAs input output places end turns i o i' o'

-- a host that stood at v did so, as the member that it is, with the places that it has
abbrev pub ServesFrom : {O N I P : Type 0} {g : Ghosts O N} {h : Nodes N} → Inputs I → Outputs P → Host O N g h → HostView → BatchedEnd → I → P → I → P → Type 0
ServesFrom {O} {N} {I} {P} {g} {h} input output host v end i o i' o' =
    ServesAs input output (begins_of host) g.may_fail (member_of host).1 (member_of host).0 (places_of host) v end i o i' o'
