use Rattle.std.proofs.Common.{refl, ap, subst, ◌∙◌}
use Rattle.ballots.specs.Members.{member_count}
use Rattle.acceptor.specs.Kept.{is_it}
use Rattle.node.specs.Calls.{Who}
use Rattle.node.specs.Sched.{Stands}
use Rattle.node.specs.View.{made}
use Rattle.node.specs.View.Standing.{Running}
use Rattle.upsched_c_node.proofs.Exact.{holds, started_so}
use Rattle.upsched_c_node.proofs.Learned.{starts_whole}
use Rattle.upsched_c_node.specs.States.{started_as}
use Rattle.upsched_c_node.proofs.plain_node.PlainNode.over.Goals as goal

pub new-node-requires-clause-certain : goal.new-node-requires-clause-certain
new-node-requires-clause-certain c honest = ∣ (c.in_ok-in_order.field-0, holds c.in_ok-in_order.field-0) ∣₁

pub returns-in-Ok : goal.returns-in-Ok
returns-in-Ok c =
    let records = c.in_ok-in_order.field-0 in
    let d = c.in-Ok.ensures.done refl (Running (made records)) (c.new-node.ensures.stands records (holds records)) in
    started_so c.restart.new.self.parts c.args.id (member_count c.args.members) records
    (c.restart.ensures.kept.0 ∙ ap (λ (w : Who). w.id) c.new-node.ensures.who) (c.restart.ensures.kept.1 ∙ ap (λ (w : Who). w.members) c.new-node.ensures.who) d.0 d.1 d.2
    ∙ ap (started_as c.args.id (member_count c.args.members)) c.in_ok-in_order.ensures.same

pub invariant_of-result : goal.invariant_of-result
invariant_of-result c =
    let records = c.in_ok-in_order.field-0 in
    let d = c.in-Ok.ensures.done refl (Running (made records)) (c.new-node.ensures.stands records (holds records)) in
    let state = started_so c.restart.new.self.parts c.args.id (member_count c.args.members) records
    (c.restart.ensures.kept.0 ∙ ap (λ (w : Who). w.id) c.new-node.ensures.who) (c.restart.ensures.kept.1 ∙ ap (λ (w : Who). w.members) c.new-node.ensures.who) d.0 d.1 d.2 in
    starts_whole c.restart.new.self.parts c.args.id (member_count c.args.members) records (subst (Stands is_it c.restart.new.self.parts) d.1 d.2).0 state c.requires c.in_ok-in_order.ensures.rows
