use Rattle.std.proofs.Common.{Some, arith}
use Rattle.acceptor_store.proofs.Words.{HasCleanDisk, state, HadBefore, Owner}
use Rattle.acceptor_store.proofs.Reopening.{opened_linked, opened_holds, over_clean}
use Rattle.acceptor_store.proofs.Others.{not_found_before, told_before}
use Rattle.acceptor_store.proofs.SqlRecords.adopt.Goals as goal

pub over-requires : goal.over-requires
over-requires g c =
    opened_linked g.S.Store g.met.S.Store.settled g.met.S.Store.stays (Some (record { node = c.args.node; members = c.args.members })) (HadBefore g.S.Store (record { node = c.args.node; members = c.args.members }) c.args.conn) c.in-Ok.found.0 c.in-Ok.found.1 c.in-Ok.ensures.tables

pub returns-clause-holds : goal.returns-clause-holds
returns-clause-holds g c =
    opened_holds g.S.Store g.met.S.Store.settled g.met.S.Store.stays (Some (record { node = c.args.node; members = c.args.members })) (HadBefore g.S.Store (record { node = c.args.node; members = c.args.members }) c.args.conn) c.in-Ok.found.0 c.in-Ok.found.1 c.in-Ok.ensures.tables c.over.result c.over.ensures.held c.over.ensures.owner

pub returns-clause-clean : goal.returns-clause-clean
returns-clause-clean g c h =
    let now : HasCleanDisk (state g.S.Store c.in-Ok.found.0) = over_clean g.S.Store g.met.S.Store.settled g.met.S.Store.stays (Some (record { node = c.args.node; members = c.args.members })) (HadBefore g.S.Store (record { node = c.args.node; members = c.args.members }) c.args.conn) c.in-Ok.found.0 c.in-Ok.found.1 c.in-Ok.ensures.tables c.over.result c.over.ensures.held h in
    omega (arith, c.in-Ok.ensures.clean, now)

pub returns-clause-other : goal.returns-clause-other
returns-clause-other g c other others honest =
    let wanted : Owner = record { node = c.args.node; members = c.args.members } in
    let found = returns-clause-holds g c honest in
    not_found_before g.S.Store wanted other c.args.conn others found.0 found.1

pub returns-in-Err-clause-other : goal.returns-in-Err-clause-other
returns-in-Err-clause-other g c other others clean =
    let wanted : Owner = record { node = c.args.node; members = c.args.members } in
    told_before g.S.Store wanted other c.args.conn others c.in-Err.refused.0 c.in-Err.refused.1 (c.in-Err.ensures.due clean)
    (λ is. c.in-Err.ensures.refused is clean)
