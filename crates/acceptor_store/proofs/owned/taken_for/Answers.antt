use Rattle.std.proofs.Common.{inl, inr, Ok, Err, arith}
use Rattle.acceptor_store.proofs.Words.{IfErr-weaker, IfOk-weaker}
use Rattle.acceptor_store.proofs.Claiming.{claimed_clean, claimed_due, claimed_leaves, claimed_left, claimed_refused}
use Rattle.acceptor_store.proofs.Claiming.{claimed_tables}
use Rattle.acceptor_store.proofs.owned.taken_for.Goals as goal

pub returns-in-Ok-clause-tables : goal.returns-in-Ok-clause-tables
returns-in-Ok-clause-tables g c =
    let finds = claimed_tables g.S.Store c.args.owner.now c.args.conn c.reread_owned.result (Ok c.in-Ok.read) c.in-Ok.ensures c.reread_owned.ensures.tables in
    IfOk-weaker c.counted.result _ _ (λ x h clean. let it = h clean in it.1 c.args.conn (finds it.0 c.requires)) c.counted.ensures.tables

pub returns-in-Ok-clause-clean : goal.returns-in-Ok-clause-clean
returns-in-Ok-clause-clean g c =
    let before = claimed_clean g.S.Store c.args.owner.now c.args.conn c.reread_owned.result (Ok c.in-Ok.read) c.in-Ok.ensures c.reread_owned.ensures.clean in
    IfOk-weaker c.counted.result _ _ (λ x h. omega (arith, before, h)) c.counted.ensures.clean

pub returns-in-Ok-clause-whole : goal.returns-in-Ok-clause-whole
returns-in-Ok-clause-whole g c =
    let finds = claimed_tables g.S.Store c.args.owner.now c.args.conn c.reread_owned.result (Ok c.in-Ok.read) c.in-Ok.ensures c.reread_owned.ensures.tables in
    let leaves = claimed_leaves g.S.Store c.args.owner.now c.args.conn c.reread_owned.result c.in-Ok.read c.in-Ok.ensures c.reread_owned.ensures.leaves in
    IfErr-weaker c.counted.result _ _ (λ e h clean db may.
    let it = h clean in
    elim (it.1 c.args.conn (finds it.0 c.requires) db may) [ inl before ↦ inl (leaves it.0 db before) | inr made ↦ inr made ]) c.counted.ensures.left

pub returns-in-Ok-clause-due : goal.returns-in-Ok-clause-due
returns-in-Ok-clause-due g c = IfErr-weaker c.counted.result _ _ (λ e h clean is_new. h c.args.conn is_new) c.counted.ensures.due

pub returns-in-Ok-clause-refused : goal.returns-in-Ok-clause-refused
returns-in-Ok-clause-refused g c =
    let finds = claimed_tables g.S.Store c.args.owner.now c.args.conn c.reread_owned.result (Ok c.in-Ok.read) c.in-Ok.ensures c.reread_owned.ensures.tables in
    IfErr-weaker c.counted.result _ _ (λ e h refused clean. let it = h clean in inl (it.1 c.args.conn (finds it.0 c.requires))) c.counted.ensures.refused

pub returns-in-Err-clause-due : goal.returns-in-Err-clause-due
returns-in-Err-clause-due g c clean is_new =
    claimed_due g.S.Store c.args.owner.now c.args.conn is_new c.reread_owned.result (Err c.in-Err.refused) c.in-Err.ensures c.requires c.reread_owned.ensures.tables c.reread_owned.ensures.foreign clean

pub returns-in-Err-clause-refused : goal.returns-in-Err-clause-refused
returns-in-Err-clause-refused g c refused clean = inr (claimed_refused g.S.Store c.args.owner.now c.args.conn c.reread_owned.result (Err c.in-Err.refused) c.in-Err.ensures c.reread_owned.ensures.refused refused clean)

pub returns-in-Err-clause-whole : goal.returns-in-Err-clause-whole
returns-in-Err-clause-whole g c clean db may =
    inl (claimed_left g.S.Store c.args.owner.now c.args.conn c.reread_owned.result (Err c.in-Err.refused) c.in-Err.ensures c.reread_owned.ensures.leaves c.reread_owned.ensures.left clean db may)
