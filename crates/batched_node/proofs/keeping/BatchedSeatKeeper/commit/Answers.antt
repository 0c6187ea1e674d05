use Rattle.std.proofs.Common.{◌≡◌, ◌<◌, ℕ, ap, subst, sym}
use Rattle.batched_node.proofs.Noting.{committed, kept_after}
use Rattle.kept_node.proofs.Callers.{fails_then}
use Rattle.node_service.specs.declared.outgoing.Reply.TheVariants as reply
use Rattle.proposer.specs.declared.fault.NodeFault.{NodeFault}
use Rattle.seats.specs.Occupant.{node_of, who_of}
use Rattle.seats.specs.declared.acted.Acted.TheVariants as acted
use Rattle.batched_node.proofs.keeping.BatchedSeatKeeper.commit.Goals as goal

pub returns-in-Ok-clause-kept : goal.returns-in-Ok-clause-kept
returns-in-Ok-clause-kept g c =
    let old = c.args.self.now in
    let me : c.id-id.result ≡ (who_of old.seat).id = cc (c.id-id.ensures.id, c.node.ensures) in
    kept_after g.W.WriteStore c.store_waiting.new.self (who_of old.seat) (node_of old.seat).parts.records c.in-Ok.ensures.none
    (committed g.W.WriteStore old.noted c.store_waiting.new.self (who_of old.seat) (node_of old.seat).parts.records c.id-id.result me c.in-Ok.ensures.goes_on c.in-Ok.ensures.stored c.requires.0)

pub returns-in-Ok-clause-noted : goal.returns-in-Ok-clause-noted
returns-in-Ok-clause-noted g c =
    let old = c.args.self.now in
    let me : c.id-id.result ≡ (who_of old.seat).id = cc (c.id-id.ensures.id, c.node.ensures) in (
      committed g.W.WriteStore old.noted c.store_waiting.new.self (who_of old.seat) (node_of old.seat).parts.records c.id-id.result me c.in-Ok.ensures.goes_on c.in-Ok.ensures.stored c.requires.0,
      subst (λ (n : ℕ). 0 < n) (sym c.store_waiting.ensures.capacity) c.requires.1,
    )

pub returns-in-Err-clause-fails : goal.returns-in-Err-clause-fails
returns-in-Err-clause-fails g c =
    let old = c.args.self.now in
    let me : c.id-id.result ≡ (who_of old.seat).id = cc (c.id-id.ensures.id, c.node.ensures) in (
      c.in-Err.fault,
      ap (λ (f : NodeFault). reply.Acted (acted.Fault f)) c.from.ensures,
      fails_then g.W.WriteStore old.noted c.store_waiting.new.self c.id-id.result (who_of old.seat).id (node_of old.seat).parts.records c.in-Err.fault me c.in-Err.ensures.fails (λ goes. c.requires.0.waits),
    )
