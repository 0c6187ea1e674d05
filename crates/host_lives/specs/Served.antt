-- A host that serves lives.
use Rattle.std.specs.Prelude.{◌≡◌, ℕ, List, map}
use Rattle.acceptor.specs.Content.{Content}
use Rattle.hosts.specs.Views.{HostView}
use Rattle.host_service.specs.Serving.{EndsAs, ServesAs}
use Rattle.host_service.specs.declared.reply.HostReply.{HostReply}
use Rattle.node_service.specs.declared.batches.BatchedEnd.{BatchedEnd}
use Rattle.node_service.specs.declared.lines.Lines.{Ghosts as Inputs}
use Rattle.node_service.specs.declared.outbox.Outbox.{Ghosts as Outputs}
use Rattle.proposer.specs.declared.fault.NodeFault.{NodeFault}
use Rattle.host_lives.specs.Beginning.{IsLife, IsLifeFrom, LivesFrom, new_host, nothing}
use Rattle.host_lives.specs.Turns.{HostEvent}
use Rattle.host_lives.specs.Turns.HostEvent.{Replied}

-- nodes begin over nothing else than what these records hold
abbrev pub BeginOver : (ℕ → Content → Type 0) → (ℕ → Content) → Type 0
BeginOver begins contents = (e : ℕ) (c : Content) → begins e c → c ≡ contents e

-- whatever a host did that stood at v, whose nodes begin over what its records hold and may fail to open so, as it
-- served an input and an output: it has lived so from there, and ended so
abbrev pub ServingIsLiving : {S I P : Type 0} → (S → ℕ → Content → Type 0) → (NodeFault → Type 0) → Inputs I → Outputs P → Type 0
ServingIsLiving {S} {I} {P} begins may_fail input output =
    (opens : S) (contents : ℕ → Content) (members me places : ℕ) (v : HostView) (end : BatchedEnd) (i : I) (o : P) (i' : I) (o' : P)
    → BeginOver (begins opens) contents
    → ServesAs input output (begins opens) may_fail members me places v end i o i' o'
    → (turns : List (List ℕ × HostReply)) × IsLifeFrom members me places contents v turns × EndsAs input output places end turns i o i' o'

-- a new host over records that hold nothing lives its one life so
abbrev pub ServingNewIsLiving : {S I P : Type 0} → (S → ℕ → Content → Type 0) → (NodeFault → Type 0) → Inputs I → Outputs P → Type 0
ServingNewIsLiving {S} {I} {P} begins may_fail input output =
    (opens : S) (members me places : ℕ) (end : BatchedEnd) (i : I) (o : P) (i' : I) (o' : P) → BeginOver (begins opens) nothing
    → ServesAs input output (begins opens) may_fail members me places new_host end i o i' o'
    → (turns : List (List ℕ × HostReply)) × IsLife members me places turns × EndsAs input output places end turns i o i' o'

-- turns of host k as what happened
abbrev pub happened_at : ℕ → List (List ℕ × HostReply) → List HostEvent
happened_at k turns = map (λ turn. Replied (record { host = k; line = turn.0; reply = turn.1 })) turns

-- one life is lives
abbrev pub LifeIsLived : Type 0
LifeIsLived =
    (members me places : ℕ) (contents : ℕ → Content) (v : HostView) (turns : List (List ℕ × HostReply))
    → IsLifeFrom members me places contents v turns → LivesFrom members me places contents v (happened_at me turns)
