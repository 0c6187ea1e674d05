use Rattle.std.proofs.Common.{IsSome, refl, arith}
use Rattle.acceptor_store.proofs.Words.{HasCleanDisk, state}
use Rattle.acceptor_store.proofs.Owning.{counts_made, counts_some, left_counting, to_count}
use Rattle.acceptor_store.proofs.owned.counted.Goals as goal

pub returns-in-Some-clause-tables : goal.returns-in-Some-clause-tables
returns-in-Some-clause-tables g c clean =
    let some : IsSome c.args.read.1.count = rw c.in-Some.is refl in
    (clean, λ conn f. counts_some g.S.Store c.args.owner conn c.args.read.0 c.args.read.1 f some)

pub returns-in-Ok-clause-tables : goal.returns-in-Ok-clause-tables
returns-in-Ok-clause-tables g c clean =
    let before : HasCleanDisk (state g.S.Store c.args.read.0) = omega (arith, c.in-Ok.ensures.clean, clean) in
    (before, λ conn f. counts_made g.S.Store c.args.owner conn c.args.read.0 c.args.read.1 f c.in-Ok.made c.at.result c.in-None.is (c.in-Ok.ensures.made clean) c.at.ensures.ballots c.at.ensures.count)

pub returns-in-Err-clause-left : goal.returns-in-Err-clause-left
returns-in-Err-clause-left g c clean =
    let before : HasCleanDisk (state g.S.Store c.args.read.0) = omega (arith, c.in-Err.ensures.trusted, clean) in
    (before, λ conn f db may. left_counting g.S.Store c.args.owner conn c.args.read.0 c.args.read.1 f c.in-None.is db (c.in-Err.ensures.left clean db may))

pub returns-in-Err-clause-refused : goal.returns-in-Err-clause-refused
returns-in-Err-clause-refused g c clean =
    let before : HasCleanDisk (state g.S.Store c.args.read.0) = omega (arith, c.in-Err.ensures.trusted, clean) in
    (before, λ conn f. to_count g.S.Store c.args.owner conn c.args.read.0 c.args.read.1 f c.in-None.is)
