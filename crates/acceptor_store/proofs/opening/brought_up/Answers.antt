use Rattle.std.proofs.Common.{arith, inr}
use Rattle.acceptor_store.proofs.Words.{HasCleanDisk, state}
use Rattle.acceptor_store.proofs.Leaving.{raises_whole}
use Rattle.acceptor_store.proofs.Refusing.{raise_refused}
use Rattle.acceptor_store.proofs.Leaving.{raises_ready, stays_ready}
use Rattle.acceptor_store.proofs.opening.brought_up.Goals as goal

pub returns-in-Second-clause-tables : goal.returns-in-Second-clause-tables
returns-in-Second-clause-tables g c clean schema = stays_ready g.S.Store c.args.version c.args.conn c.in-Ok.found.0 c.in-Ok.found.1 c.in-Second.is c.in-Ok.ensures.count (c.in-Ok.ensures.tables clean schema)

pub returns-in-Ok-make-clause-tables : goal.returns-in-Ok-make-clause-tables
returns-in-Ok-make-clause-tables g c clean schema =
    let mid : HasCleanDisk (state g.S.Store c.in-Ok.found.0) = omega (arith, c.in-Ok-make.ensures.clean, clean) in
    raises_ready g.S.Store c.args.version c.args.conn c.in-Ok.found.0 c.in-Ok-make.raised c.in-Ok.found.1 c.in-First.is c.in-Ok.ensures.count (c.in-Ok.ensures.tables mid schema) (c.in-Ok-make.ensures.made clean)

pub returns-in-Err-make-clause-whole : goal.returns-in-Err-make-clause-whole
returns-in-Err-make-clause-whole g c sure schema db may =
    let clean : HasCleanDisk (state g.S.Store c.in-Ok.found.0) = omega (arith, c.in-Err-make.ensures.trusted, sure) in
    raises_whole g.S.Store c.args.version c.args.conn c.in-Ok.found.0 c.in-Ok.found.1 db c.in-First.is c.in-Ok.ensures.leaves clean (c.in-Ok.ensures.tables clean schema) (c.in-Err-make.ensures.left sure db may)

pub returns-in-Err-clause-refused : goal.returns-in-Err-clause-refused
returns-in-Err-clause-refused g c refused sure schema = inr (c.in-Err.ensures.refused refused sure)

pub returns-in-Err-make-clause-refused : goal.returns-in-Err-make-clause-refused
returns-in-Err-make-clause-refused g c refused sure schema =
    let clean : HasCleanDisk (state g.S.Store c.in-Ok.found.0) = omega (arith, c.in-Err-make.ensures.trusted, sure) in
    raise_refused g.S.Store c.args.conn c.args.version c.in-Ok.found.0 c.in-Ok.found.1 _ c.in-First.is (c.in-Ok.ensures.tables clean schema)
