-- What is told of how a new host ended.
use Rattle.std.proofs.Common.{◌≡◌, ◌↔◌, inr, ℕ, false, true, Result, Ok, Err, IsOk, MatchResult, refl, subst}
use Rattle.std.specs.Io.KnownBytes.{Appends}
use Rattle.node_service.specs.declared.batches.BatchedEnd.{BatchedEnd}
use Rattle.node_service.specs.declared.batches.BatchedEnd.TheVariants as ends
use Rattle.node_service.specs.declared.lines.Lines.{Ghosts as Inputs}
use Rattle.node_service.specs.declared.outbox.Outbox.{Ghosts as Outputs}
use Rattle.acceptor.specs.Content.{Content, no_content}
use Rattle.ballots.specs.Members.{member_count}
use Rattle.hosts.specs.Hosts.{begins_of, places_of}
use Rattle.hosts.specs.Views.{opening}
use Rattle.hosts.specs.declared.opens.Opens.{Ghosts}
use Rattle.node.specs.declared.node.Node.{Ghosts as Nodes}
use Rattle.host_service.specs.Replying.{host_of}
use Rattle.host_service.specs.Serving.{ServesAs, ServesFrom}
use Rattle.host_service.specs.declared.service.HostServer.{HostServer}
use Rattle.upsched_ends.specs.declared.status.Status.TheVariants.{Done, Faulted}
use Rattle.upsched_host.specs.Named.{BeginEmpty, IsNewServer, Who}
use Rattle.upsched_host.specs.Serving.{NewServesAs, RunsHost, first_text}

-- a new host serves as one
pub serves_new : {O N I P : Type 0} {g : Ghosts O N} {h : Nodes N} (input : Inputs I) (output : Outputs P) (server : HostServer O N g h) (who : Who) (end : BatchedEnd) (i : I) (o : P) (i' : I) (o' : P)
    → IsNewServer server who → begins_of (host_of server) ≡ BeginEmpty → ServesFrom input output (host_of server) (opening (λ e. no_content)) end i o i' o'
    → ServesAs input output BeginEmpty g.may_fail (member_count who.1) who.0 who.2 (opening (λ e. no_content)) end i o i' o'
serves_new {O} {N} {I} {P} {g} {h} input output server who end i o i' o' new begins serves =
    subst (λ (b : ℕ → Content → Type 0). ServesAs input output b g.may_fail (member_count who.1) who.0 who.2 (opening (λ e. no_content)) end i o i' o') begins
    (subst (λ (p : ℕ). ServesAs input output (begins_of (host_of server)) g.may_fail (member_count who.1) who.0 p (opening (λ e. no_content)) end i o i' o') new.places
    (subst (λ (m : ℕ × ℕ). ServesAs input output (begins_of (host_of server)) g.may_fail m.1 m.0 (places_of (host_of server)) (opening (λ e. no_content)) end i o i' o') new.member serves))

-- how it ended is told
pub told : {I O F : Type 0} (input : Inputs I) (output : Outputs O) (who : Who) (r : Result (Unit {0}) F) (end : BatchedEnd) (i : I) (o sent : O) (i' : I) (o' : O)
    → Appends (output.bytes_held o) (output.bytes_held sent) (first_text who) → NewServesAs input output who end i sent i' o'
    → (IsOk r ↔ (end ≡ ends.Input)) → MatchResult r (λ done. RunsHost input output who Done i o i' o') (λ fault. RunsHost input output who Faulted i o i' o')
told input output who (Ok done) end i o sent i' o' written serves tells =
    (sent, written, subst (λ (x : BatchedEnd). NewServesAs input output who x i sent i' o') (tells.0 refl) serves)
told input output who (Err fault) end i o sent i' o' written serves tells = inr (sent, end, written, (λ is. let wrong : false ≡ true = tells.1 is in cc), serves)
