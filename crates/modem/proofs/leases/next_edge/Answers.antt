use Rattle.std.proofs.Common.{get_or, take, subst}
use Rattle.std.specs.List.{All}
use Rattle.std.proofs.lemmas.List.{take_more, take_all}
use Rattle.modem.specs.declared.known.OwnLease.{OwnLease}
use Rattle.modem.specs.Idle.{IsSameIn}
use Rattle.std.proofs.lemmas.List.Elements.{All-push}
use Rattle.modem.proofs.NextEdges.{CoverSame-made}
use Rattle.modem.proofs.leases.next_edge.Goals as goal

pub loop-lease-preserved : goal.loop-lease-preserved
loop-lease-preserved c =
    let none : OwnLease = record { channel = 0; sid = 0; first = 0; last = 0 } in
    let ls = c.args.leases.now in
    let i = c.loop-lease.lease-index in (
      c.sooner-next.ensures.after c.args.«at» c.loop-lease.invariant.0 c.edge_of.ensures.after,
      λ x late before.
          let b = c.sooner-next.ensures.before x before in
          rw (take_more ls i none c.loop-lease-test.true) (All-push (IsSameIn c.args.ch c.args.«at» x) (take i ls) (get_or ls i none) (c.loop-lease.invariant.1 x late b.0) (c.edge_of.ensures.same x late b.1)),
    )

pub returns-clause-same : goal.returns-clause-same
returns-clause-same c = λ x late before.
    CoverSame-made c.args.leases.now c.args.ch c.args.«at» x late (subst (λ ls. All (IsSameIn c.args.ch c.args.«at» x) ls) (take_all c.loop-lease.lease-index c.args.leases.now c.loop-lease-test.false) (c.loop-lease.invariant.1 x late before))
