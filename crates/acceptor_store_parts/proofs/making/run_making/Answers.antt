use Rattle.std.proofs.Common.{◌≡◌, OnOk, refl, sym, subst, rules}
use Rattle.acceptor_store_parts.proofs.Words.{HasCleanDisk, Survives, state, IsMade, MayBeMade, Was, owner_then}
use Rattle.acceptor_store_parts.proofs.Makes.{committed, may_commit, on_ok}
use Rattle.acceptor_store_parts.proofs.making.run_making.Goals as goal

pub returns-clause-made : goal.returns-clause-made
returns-clause-made g c clean =
    let begun = c.transaction-tx.ensures.begun in
    let end = c.commit.new.self.0 in
    let same : end ≡ c.conn-2-1.given.0 = search rules in
    let late : HasCleanDisk (state g.S.Store end) = subst (λ h. HasCleanDisk (state g.S.Store h)) (sym same) clean in
    subst (λ h. OnOk c.commit.result (IsMade c.args.making (state g.S.Store c.args.conn.now) (state g.S.Store h))) same (on_ok c.commit.result (c.commit.ensures.ok late)
    (λ done. committed g.S.Store c.args.conn.now end (state g.S.Store c.inside.new.tx.conn.now) (Was c.args.making) (owner_then c.args.making) (rw begun at c.inside.ensures.survives) (λ (sure : HasCleanDisk (state g.S.Store c.inside.new.tx.conn.now)). rw begun at (c.in_ok-inside.ensures.made sure (rw begun refl)).1) c.commit.ensures.survives done.1 late))

pub returns-clause-survives : goal.returns-clause-survives
returns-clause-survives g c =
    let begun = c.transaction-tx.ensures.begun in
    let end = c.commit.new.self.0 in
    let same : end ≡ c.conn-2-1.given.0 = search rules in
    let all = may_commit g.S.Store c.args.conn.now end (state g.S.Store c.inside.new.tx.conn.now) (Was c.args.making) (owner_then c.args.making) (rw begun at c.inside.ensures.survives) (λ (sure : HasCleanDisk (state g.S.Store c.inside.new.tx.conn.now)). rw begun at (c.in_ok-inside.ensures.made sure (rw begun refl)).1) c.commit.ensures.survives in
    subst (λ h. Survives (state g.S.Store c.args.conn.now) (state g.S.Store h) (MayBeMade c.args.making (state g.S.Store c.args.conn.now))) same all
