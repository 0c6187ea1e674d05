use Rattle.std.proofs.Common.{◌≡◌, IsTrue, OnOk, OnErr, refl, sym, subst, rules, arith}
use Rattle.acceptor_store_parts.proofs.Words.{HasCleanDisk, Survives, state, survives_begin, survives_weaker}
use Rattle.acceptor_store_parts.proofs.Words.{StillServes, HasWrittenAll, MayHaveWrittenAll}
use Rattle.acceptor_store_parts.proofs.Batches.{all_committed, may_commit_all, undone_serves, commit_failed}
use Rattle.acceptor_store_parts.proofs.Makes.{inside_then, on_ok}
use Rattle.node_writes.specs.Writes.{LeadTo}
use Rattle.acceptor_store_parts.proofs.batch.run_all.Goals as goal

pub returns-in-Ok-clause-ok : goal.returns-in-Ok-clause-ok
returns-in-Ok-clause-ok g c clean =
    let begun = c.transaction-tx.ensures.begun in
    let mid = state g.S.Store c.count_all_inside.new.tx.conn.now in
    let end = c.commit.new.self.0 in
    let same : end ≡ c.conn-1.given.0 = search rules in
    let late : HasCleanDisk (state g.S.Store end) = subst (λ h. HasCleanDisk (state g.S.Store h)) (sym same) clean in
    subst (λ h. OnOk c.commit.result (HasWrittenAll c.args.id c.args.writes.now c.args.next (state g.S.Store c.args.conn.now) (state g.S.Store h))) same (on_ok c.commit.result (c.commit.ensures.ok late)
    (λ done. all_committed g.S.Store c.args.conn.now end mid (LeadTo c.args.id c.args.writes.now) c.args.next (rw begun at c.count_all_inside.ensures.survives)
    (λ (sure : HasCleanDisk mid). rw begun at (c.in-Ok.ensures.put sure (rw begun refl))) c.commit.ensures.survives done.1 late))

pub returns-in-Ok-clause-err : goal.returns-in-Ok-clause-err
returns-in-Ok-clause-err g c clean =
    let begun = c.transaction-tx.ensures.begun in
    let mid = state g.S.Store c.count_all_inside.new.tx.conn.now in
    let end = c.commit.new.self.0 in
    let same : end ≡ c.conn-1.given.0 = search rules in
    let late : HasCleanDisk (state g.S.Store end) = subst (λ h. HasCleanDisk (state g.S.Store h)) (sym same) clean in
    let sure : HasCleanDisk mid = omega (arith, c.commit.ensures.survives.clean, late) in
    subst (λ h. IsTrue (state g.S.Store h).is_open → OnErr c.commit.result (StillServes (state g.S.Store c.args.conn.now) (state g.S.Store h))) same
    (commit_failed g.S.Store c.args.conn.now mid (state g.S.Store end) (rw begun at (c.count_all_inside.ensures.kept sure (rw begun refl))) c.commit.result (c.in-Ok.ensures.put sure (rw begun refl)).0 (c.commit.ensures.err late))

pub returns-in-Ok-clause-survives : goal.returns-in-Ok-clause-survives
returns-in-Ok-clause-survives g c =
    let begun = c.transaction-tx.ensures.begun in
    let mid = state g.S.Store c.count_all_inside.new.tx.conn.now in
    let end = c.commit.new.self.0 in
    let same : end ≡ c.conn-1.given.0 = search rules in
    let all = may_commit_all g.S.Store c.args.conn.now end mid (LeadTo c.args.id c.args.writes.now) c.args.next (rw begun at c.count_all_inside.ensures.survives)
    (λ (sure : HasCleanDisk mid). rw begun at (c.in-Ok.ensures.put sure (rw begun refl))) c.commit.ensures.survives in
    subst (λ h. Survives (state g.S.Store c.args.conn.now) (state g.S.Store h) (MayHaveWrittenAll c.args.id c.args.writes.now c.args.next (state g.S.Store c.args.conn.now))) same all

pub returns-in-Err-clause-err : goal.returns-in-Err-clause-err
returns-in-Err-clause-err g c clean =
    let begun = c.transaction-tx.ensures.begun in
    let mid = state g.S.Store c.count_all_inside.new.tx.conn.now in
    let end = c.rollback.new.self.0 in
    let same : end ≡ c.conn-in-Err-1.given.0 = search rules in
    let late : HasCleanDisk (state g.S.Store end) = subst (λ h. HasCleanDisk (state g.S.Store h)) (sym same) clean in
    let sure : HasCleanDisk mid = omega (arith, c.rollback.ensures.survives.clean, late) in
    subst (λ h. IsTrue (state g.S.Store h).is_open → StillServes (state g.S.Store c.args.conn.now) (state g.S.Store h)) same
    (undone_serves g.S.Store c.args.conn.now mid (state g.S.Store end) (rw begun at (c.count_all_inside.ensures.kept sure (rw begun refl))) (c.rollback.ensures.undone late))

pub returns-in-Err-clause-survives : goal.returns-in-Err-clause-survives
returns-in-Err-clause-survives g c =
    let begun = c.transaction-tx.ensures.begun in
    let mid = state g.S.Store c.count_all_inside.new.tx.conn.now in
    let end = c.rollback.new.self.0 in
    let same : end ≡ c.conn-in-Err-1.given.0 = search rules in
    let none = inside_then (rw begun at c.count_all_inside.ensures.survives) c.rollback.ensures.survives in
    let all = survives_weaker (state g.S.Store c.args.conn.now) (state g.S.Store end) (λ _. ⊥) (MayHaveWrittenAll c.args.id c.args.writes.now c.args.next (state g.S.Store c.args.conn.now)) (λ _ db no. absurd no) (survives_begin g.S.Store c.args.conn.now (state g.S.Store end) _ none) in
    subst (λ h. Survives (state g.S.Store c.args.conn.now) (state g.S.Store h) (MayHaveWrittenAll c.args.id c.args.writes.now c.args.next (state g.S.Store c.args.conn.now))) same all
