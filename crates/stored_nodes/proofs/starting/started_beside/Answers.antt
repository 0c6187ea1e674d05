use Rattle.stored_nodes.proofs.Beside.{started_beside}
use Rattle.stored_nodes.proofs.starting.started_beside.Goals as goal

pub returns : goal.returns
returns g c =
    started_beside _ _ _ _ _ (g.F.OpensRecords.begins c.args.files (record { node = c.args.member.0; members = c.args.member.1 })) _ _ _ _ c.in-Ok.records
    (λ is. c.in_ok-store.ensures.found (c.in-Ok.ensures.trust.honest is)) c.in-Ok.ensures.value c.in-Ok.ensures.sound c.in-Ok.ensures.kept
    c.in_ok-node.ensures.id c.in_ok-node.ensures.members c.in_ok-node.ensures.up c.in_ok-node.ensures.new c.in_ok-node.ensures.over c.in_ok-node.ensures.same
