-- What a host does with lines while it waits for a state to begin by.
use Rattle.std.specs.Prelude.{◌≡◌, ◌⊎◌, ℕ, Bool, false, List, [], ◌∷◌, ◌++◌, All, Some, None, is_some, Result, Ok, Err}
use Rattle.std.specs.Io.KnownBytes.{Appends, Consumes}
use Rattle.acceptor.specs.Content.{Content}
use Rattle.epochs.specs.Epochs.{AreFull}
use Rattle.flow_state.specs.Rows.{Rows}
use Rattle.host_states.specs.States.{IsState}
use Rattle.host_states.specs.declared.head.StateHead.{StateHead}
use Rattle.hosts.specs.Hosts.{AreMembers, IsHonest, begins_of, member_of, number_of, places_of}
use Rattle.hosts.specs.Keeping.{HaveKept}
use Rattle.hosts.specs.Starting.{CanStart, IsNoStartBy, StandsBehind}
use Rattle.hosts.specs.States.{IsStateOf}
use Rattle.hosts.specs.declared.fault.JoinFault.{JoinFault}
use Rattle.hosts.specs.declared.fault.JoinFault.TheVariants as cant_join
use Rattle.hosts.specs.declared.host.Host.{Host}
use Rattle.hosts.specs.declared.opens.Opens.{Ghosts}
use Rattle.node.specs.declared.node.Node.{Ghosts as Nodes}
use Rattle.node_lines.specs.Input.{IsDropped}
use Rattle.node_lines.specs.declared.fault.LineFault.{LineFault}
use Rattle.node_service.specs.Batched.{lines_in, text_in}
use Rattle.node_service.specs.declared.keeper.Keeper.{Ghosts as Keepers}
use Rattle.node_service.specs.declared.lines.Lines.{Ghosts as Inputs}
use Rattle.node_service.specs.declared.outbox.Outbox.{Ghosts as Outputs}
use Rattle.node_service.specs.declared.outgoing.Reply.TheVariants as reply
use Rattle.host_service.specs.Asking.{AsksHost}
use Rattle.host_service.specs.Replying.{fault_reply}
use Rattle.host_service.specs.Texts.{host_text}
use Rattle.host_service.specs.declared.asked.HostRequest.TheVariants as ask
use Rattle.host_service.specs.declared.reply.HostReply.{HostReply}
use Rattle.host_service.specs.declared.reply.HostReply.TheVariants.{Joined, NoState, AsNode}
use Rattle.host_service.specs.declared.waiting.WaitingHost.{WaitingHost}

-- what is told of a state that is no start
abbrev pub no_start_reply : JoinFault → HostReply
no_start_reply cant_join.NoState = NoState
no_start_reply (cant_join.Node why) = fault_reply why

-- a host was made by these bytes, of so many places in an epoch, of what opens its nodes: it is at the start of the epoch
-- behind whatever full epochs the bytes are a state, and has kept all that it did
pub record IsJoinedBy {O N : Type 0} {g : Ghosts O N} {h : Nodes N} (opens : O) (many : ℕ) (bytes : List ℕ) (host : Host O N g h) : Type 0 where
  pub member : member_of host ≡ g.member opens
  pub places : places_of host ≡ many
  pub members : AreMembers host
  pub kept : HaveKept host
  pub begins : (e : ℕ) (c : Content) → begins_of host e c → g.begins opens e c
  pub state : (head : StateHead) × (rows : Rows) × IsState bytes head rows × CanStart (g.member opens).1 many head
  pub stands : IsHonest host → (me : ℕ) (passed : List (List (List ℕ))) → AreFull many passed → IsStateOf me (g.member opens).1 many passed bytes
      → StandsBehind (g.begins opens) many false passed host

-- it waits with this, which opens its nodes
pub record IsWaiting {O N : Type 0} {g : Ghosts O N} {h : Nodes N} (w : WaitingHost O N g h) (from : O) (many : ℕ) : Type 0 where
  pub opens : w.opens ≡ Some from
  pub places : w.places ≡ many

-- it was given these bytes: it is a host by them; or they are no start, and it waits on
pub record HasJoined {O N : Type 0} {g : Ghosts O N} {h : Nodes N} (opens : O) (places : ℕ) (bytes : List ℕ) (replied : HostReply) (new : WaitingHost O N g h) : Type 0 where
  pub host : Host O N g h
  pub is : new.host ≡ Some host
  pub none : new.opens ≡ None
  pub joined : IsJoinedBy opens places bytes host
  pub told : replied ≡ Joined (number_of host)

pub record WaitsOn {O N : Type 0} {g : Ghosts O N} {h : Nodes N} (opens : O) (places : ℕ) (bytes : List ℕ) (replied : HostReply) (new : WaitingHost O N g h) : Type 0 where
  pub why : JoinFault
  pub left : O
  pub waits : IsWaiting new left places
  pub no_start : IsNoStartBy g opens places bytes why left
  pub told : replied ≡ no_start_reply why

abbrev pub HeedsState : {O N : Type 0} {g : Ghosts O N} {h : Nodes N} → WaitingHost O N g h → List ℕ → HostReply → WaitingHost O N g h → Type 0
HeedsState {O} {N} {g} {h} old bytes replied new =
    (opens : O) × (old.opens ≡ Some opens) × (HasJoined opens old.places bytes replied new ⊎ WaitsOn opens old.places bytes replied new)

-- a line that gives it no state
abbrev pub GivesNone : List ℕ → Type 0
GivesNone line = (bytes : List ℕ) → ¬ AsksHost line (ask.Join bytes)

-- it heeds a line that gives it a state, and no other
abbrev pub HeedsLine : {O N : Type 0} {g : Ghosts O N} {h : Nodes N} → WaitingHost O N g h → List ℕ → HostReply → WaitingHost O N g h → Type 0
HeedsLine old line replied new =
    ((bytes : List ℕ) × AsksHost line (ask.Join bytes) × HeedsState old bytes replied new) ⊎ (GivesNone line × (replied ≡ NoState) × (new ≡ old))

abbrev pub WaitsTo : {O N : Type 0} {g : Ghosts O N} {h : Nodes N} → WaitingHost O N g h → Result (List ℕ) LineFault → HostReply → WaitingHost O N g h → Type 0
WaitsTo old (Ok line) replied new = HeedsLine old line replied new
WaitsTo old (Err why) replied new = (replied ≡ AsNode (reply.Refused why)) × (new ≡ old)

-- whether it waits
abbrev pub is_waiting : {O N : Type 0} {g : Ghosts O N} {h : Nodes N} → WaitingHost O N g h → Bool
is_waiting w = is_some w.opens

-- as what replies to lines: nothing that it did waits for a commit
abbrev pub waiting_keeper : {O N : Type 0} {g : Ghosts O N} {h : Nodes N} → Keepers (WaitingHost O N g h) HostReply
waiting_keeper = record {
  up = λ w. is_waiting w;
  replies = λ old came replied new. WaitsTo old came replied new;
  has_noted = λ w. Unit {0};
  is_apart = λ line. false;
  has_room = λ w. Unit {0};
  has_kept = λ w. Unit {0};
  commits = λ old new. new ≡ old;
  fails = λ old told new. ⊥;
  may_tell = λ told replied. false;
  leaves = λ w replied. ⊥;
}

-- a line that came while it waited, and its reply: it was let go; it gives no state; or what it gives is none for such a
-- host, or can't be gone to
abbrev pub IsUnheeded : List ℕ → HostReply → Type 0
IsUnheeded line replied =
    ((why : LineFault) × IsDropped line why × (replied ≡ AsNode (reply.Refused why)))
    ⊎ ((GivesNone line × (replied ≡ NoState))
    ⊎ ((bytes : List ℕ) × (why : JoinFault) × AsksHost line (ask.Join bytes) × (replied ≡ no_start_reply why)))

-- it waited over these lines, and became a host by the last one, which gave these bytes; each reply was written
pub record HasWaited {O N I P : Type 0} {g : Ghosts O N} {h : Nodes N} (input : Inputs I) (output : Outputs P) (opens : O) (places : ℕ) (host : Host O N g h) (i : I) (o : P) (i' : I) (o' : P) : Type 0 where
  pub unheeded : List (List ℕ × HostReply)
  pub line : List ℕ
  pub bytes : List ℕ
  pub none : All (λ turn. IsUnheeded turn.0 turn.1) unheeded
  pub asks : AsksHost line (ask.Join bytes)
  pub joined : IsJoinedBy opens places bytes host
  pub read : Consumes (input.bytes_left i) (input.bytes_left i') (lines_in (unheeded ++ (line, Joined (number_of host)) ∷ []))
  pub written : Appends (output.bytes_held o) (output.bytes_held o') (text_in host_text (unheeded ++ (line, Joined (number_of host)) ∷ []))
