use Rattle.std.proofs.Common.{subst, sym}
use Rattle.std.proofs.lemmas.Result.{IfOk-weaker}
use Rattle.acceptor_store_parts.specs.declared.owner.Owner.{Owner}
use Rattle.sqlite.specs.Held.{state}
use Rattle.stored_nodes.specs.Looks.{IsOtherSchema, IsToldOf}
use Rattle.stored_nodes.specs.States.{IsTold}
use Rattle.stored_nodes.proofs.Looked.{always_honest, held_owned, refused_owned}
use Rattle.stored_nodes.proofs.looks.told_as_owned.Goals as goal

pub returns-in-Ok-open_as : goal.returns-in-Ok-open_as
returns-in-Ok-open_as g c always opens owned =
    let wanted : Owner = record { node = c.args.id; members = c.args.members } in
    let had = c.in-Ok-open_as.ensures.holds (always_honest g.S.Store always c.in-Ok-open_as.records.held) in
    let nothing = IfOk-weaker c.hold_nothing.result _ _ (λ is holds. holds had.0 had.2) (c.hold_nothing.ensures.nothing always) in
    subst (λ t. IsTold (IsToldOf wanted (state g.S.Store c.args.conn).now) t) (sym c.told_owned.ensures)
    (held_owned g.S.Store wanted c.args.conn had.0 c.hold_nothing.result opens had.1 c.hold_nothing.ensures.memory nothing)

pub returns-in-Err : goal.returns-in-Err
returns-in-Err g c always opens owned =
    let wanted : Owner = record { node = c.args.id; members = c.args.members } in
    subst (λ t. IsTold (IsToldOf wanted (state g.S.Store c.args.conn).now) t) (sym c.told_refused.ensures)
    (refused_owned g.S.Store wanted c.args.conn c.in-Err.fault c.in-Ok.is_known opens (λ no. subst (λ s. IsOtherSchema s) c.schema.ensures.value (c.in-Ok.ensures no)) owned (c.in-Err.ensures.due (always c.in-Err._store)))
