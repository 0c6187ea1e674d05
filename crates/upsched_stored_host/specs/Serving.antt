-- What a host tells first, and does with the lines that it reads.
use Rattle.std.specs.Prelude.{◌≡◌, ◌⊎◌, ◌-◌, ℕ, List, drop, length, Err}
use Rattle.ballots.specs.declared.members.Members.{Members}
use Rattle.host_service.specs.Replying.{host_keeper, host_of}
use Rattle.host_service.specs.Serving.{IfAllTold, NeverLies, ServesFrom}
use Rattle.host_service.specs.Texts.{begins_text, host_text}
use Rattle.host_service.specs.Waiting.{HasWaited, IsWaiting, waiting_keeper}
use Rattle.host_service.specs.declared.reply.Beginning.{Beginning}
use Rattle.host_service.specs.declared.reply.Beginning.TheVariants.{Restarted}
use Rattle.host_service.specs.declared.service.HostServer.{HostServer}
use Rattle.host_service.specs.declared.waiting.WaitingHost.{WaitingHost}
use Rattle.hosts.specs.Hosts.{AreMembers, StandsAs, member_of, number_of, places_of}
use Rattle.hosts.specs.Keeping.{HaveKept, IsDownNode}
use Rattle.hosts.specs.States.{IsStateOf}
use Rattle.hosts.specs.Views.{HostView}
use Rattle.hosts.specs.declared.host.Host.{Host}
use Rattle.hosts.specs.declared.opens.Opens.{Ghosts}
use Rattle.node.specs.declared.node.Node.{Ghosts as Nodes}
use Rattle.node_lines.specs.declared.writing.Unwritten.TheVariants.{OutOfMemory}
use Rattle.node_service.specs.Batched.{EndsBatchedBy}
use Rattle.node_service.specs.declared.batches.BatchedEnd.{BatchedEnd}
use Rattle.node_service.specs.declared.batches.BatchedEnd.TheVariants as ends
use Rattle.node_service.specs.declared.lines.Lines.{Ghosts as Inputs}
use Rattle.node_service.specs.declared.outbox.Outbox.{Ghosts as Outputs}
use Rattle.upsched_ends.specs.declared.fault.Fault.TheVariants.{Crashed}
use Rattle.upsched_node.specs.First.{TellsFirst, Untouched}
use Rattle.upsched_stored_host.specs.Ends.{TellsEnd, Told}
use Rattle.upsched_stored_host.specs.declared.stopped.Stopped.TheVariants.{Ended}

-- a host can serve: it has kept all that it did, each of its nodes is the member that it is, and none of them lies
pub record CanServe {O N : Type 0} {g : Ghosts O N} {h : Nodes N} (host : Host O N g h) : Type 0 where
  pub kept : HaveKept host
  pub members : AreMembers host
  pub never : NeverLies host

-- the digest of a host: the last eight bytes of the state at the start of its own epoch
pub record IsDigestOf {O N : Type 0} {g : Ghosts O N} {h : Nodes N} (host : Host O N g h) (digest : List ℕ) : Type 0 where
  pub bytes : List ℕ
  pub last : digest ≡ drop (length bytes - 8) bytes
  pub state : (v : HostView) → StandsAs host v → IsStateOf (member_of host).0 (member_of host).1 (places_of host) v.passed bytes

-- what one tells that goes on: its epoch, and its digest
abbrev pub TellsOf : {O N : Type 0} {g : Ghosts O N} {h : Nodes N} → Host O N g h → Beginning → Type 0
TellsOf host (Restarted epoch digest) = (epoch ≡ number_of host) × IsDigestOf host digest
TellsOf host other = ⊥

-- a host served all that `serve_host` says, and its lines ended so
pub record HasServed {O N I P : Type 0} {g : Ghosts O N} {h : Nodes N} (input : Inputs I) (output : Outputs P)
    (old : HostServer O N g h) (end : BatchedEnd) (new : HostServer O N g h) (i : I) (o : P) (i' : I) (o' : P) : Type 0 where
  pub ends : EndsBatchedBy host_keeper host_text input output end old i o new i' o'
  pub kept : IfAllTold end (HaveKept (host_of new))
  pub views : (v : HostView) → StandsAs (host_of old) v → ServesFrom input output (host_of old) v end i o i' o'

-- so the end of lines is told that came before there was a host: there is no node then
abbrev pub TellsUnjoined : {C : Type 0} → BatchedEnd → Told C → Type 0
TellsUnjoined ends.Crashed told = told ≡ Err (Ended Crashed)
TellsUnjoined ends.Uncommitted told = told ≡ Err (Ended Crashed)
TellsUnjoined other told = TellsEnd (λ e of. ⊥) other told

-- a host waited for a state with what opens its nodes, and served once it had one; or the lines ended before
abbrev pub WaitsAndServes : {O N I P : Type 0} → (g : Ghosts O N) (h : Nodes N) → Inputs I → Outputs P → (opens : O) (places : ℕ)
    → Told N → I → P → I → P → Type 0
WaitsAndServes {O} {N} {I} {P} g h input output opens places told i o i' o' =
    ((old new : HostServer O N g h) × (end : BatchedEnd) × (j : I) × (p : P) × HasWaited input output opens places (host_of old) i o j p
    × HasServed input output old end new j p i' o' × TellsEnd (IsDownNode (host_of new)) end told)
    ⊎ ((old new : WaitingHost O N g h) × (end : BatchedEnd) × IsWaiting old opens places
    × EndsBatchedBy waiting_keeper host_text input output end old i o new i' o' × TellsUnjoined end told)

-- a host that goes on told its epoch and its digest, and served; or it had no memory for the digest
abbrev pub TellsAndServes : {O N I P : Type 0} {g : Ghosts O N} {h : Nodes N} → Inputs I → Outputs P → ℕ → Members → (places : ℕ)
    → HostServer O N g h → BatchedEnd → HostServer O N g h → I → P → I → P → Type 0
TellsAndServes input output id members places old end new i o i' o' =
    ((digest : List ℕ) × IsDigestOf (host_of old) digest
    × TellsFirst output (begins_text id members places (Restarted (number_of (host_of old)) digest)) (λ why. end ≡ ends.Unwritten why) i o i' o'
    (λ sent. HasServed input output old end new i sent i' o'))
    ⊎ (Untouched i o i' o' × (end ≡ ends.Unwritten OutOfMemory))
