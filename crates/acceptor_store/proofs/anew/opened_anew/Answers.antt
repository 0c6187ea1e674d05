use Rattle.std.proofs.Common.{arith}
use Rattle.acceptor_store.proofs.Words.{IfSome_then, HasCleanDisk, state}
use Rattle.acceptor_store.proofs.Reopening.{leaves, reopens}
use Rattle.acceptor_store.proofs.anew.opened_anew.Goals as goal

pub returns-clause-leaves : goal.returns-clause-leaves
returns-clause-leaves g c clean =
    let mid : HasCleanDisk (state g.S.Store c.in_ok-fresh.fresh) = omega (arith, c.tested-numbers.ensures.survives.clean, clean) in
    let found = c.in_ok-fresh.ensures.found mid in
    leaves g.S.Store c.args.owner c.args.conn c.in_ok-fresh.fresh c.tested-numbers.new.conn (c.in_ok-fresh.ensures.opened mid) found.1 g.met.S.Store.settled found.0 clean c.tested-numbers.ensures.survives

pub returns-clause-reopens : goal.returns-clause-reopens
returns-clause-reopens g c clean =
    let mid : HasCleanDisk (state g.S.Store c.in_ok-fresh.fresh) = omega (arith, c.tested-numbers.ensures.survives.clean, clean) in
    IfSome_then c.tested-numbers.result (c.tested-numbers.ensures.tells clean)
    (λ numbers told. reopens g.S.Store c.args.owner c.args.conn c.in_ok-fresh.fresh c.tested-numbers.new.conn (c.in_ok-fresh.ensures.opened mid) (c.in_ok-fresh.ensures.found mid).1 numbers told)
