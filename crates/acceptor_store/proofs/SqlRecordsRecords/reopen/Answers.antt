use Rattle.std.proofs.Common.{refl, sym, ◌∙◌}
use Rattle.acceptor_store.proofs.Reopening.{over_conn, serving_before, reopen_honest, reopen_kept, reopen_ok}
use Rattle.acceptor_store.proofs.SqlRecordsRecords.reopen.Goals as goal

pub returns-in_default-numbers-clause-kept : goal.returns-in_default-numbers-clause-kept
returns-in_default-numbers-clause-kept g c =
    reopen_kept g.S.Store c.args.self.now c.in-Some.conn c.in-Ok.opened.0 c.self.inside.owner (over_conn c.self.view_is c.self.inside.conn c.self.inside.was.value refl (sym c.take-conn.ensures.value ∙ c.in-Some.is)).0 (over_conn c.self.view_is c.self.inside.conn c.self.inside.was.value refl (sym c.take-conn.ensures.value ∙ c.in-Some.is)).1 c.in-Ok.ensures.leaves c.self.inside.is_up c.self.inside.numbers (serving_before g.S.Store c.self.inside.owner c.self.inside.conn c.self.inside.was.value c.self.inside.is_up c.self.inside.numbers (sym c.take-conn.ensures.value ∙ c.in-Some.is) c.self.invariant)

pub returns-in_default-numbers-clause-honest : goal.returns-in_default-numbers-clause-honest
returns-in_default-numbers-clause-honest g c =
    reopen_honest g.S.Store c.args.self.now c.in-Some.conn c.in-Ok.opened.0 c.self.inside.owner (over_conn c.self.view_is c.self.inside.conn c.self.inside.was.value refl (sym c.take-conn.ensures.value ∙ c.in-Some.is)).0 (over_conn c.self.view_is c.self.inside.conn c.self.inside.was.value refl (sym c.take-conn.ensures.value ∙ c.in-Some.is)).1 c.in-Ok.ensures.leaves

pub returns-in_default-numbers-clause-trust : goal.returns-in_default-numbers-clause-trust
returns-in_default-numbers-clause-trust g c =
    let honest = reopen_honest g.S.Store c.args.self.now c.in-Some.conn c.in-Ok.opened.0 c.self.inside.owner (over_conn c.self.view_is c.self.inside.conn c.self.inside.was.value refl (sym c.take-conn.ensures.value ∙ c.in-Some.is)).0 (over_conn c.self.view_is c.self.inside.conn c.self.inside.was.value refl (sym c.take-conn.ensures.value ∙ c.in-Some.is)).1 c.in-Ok.ensures.leaves in
    record { honest = honest; clean = honest; sure = λ clean _. clean }

pub returns-clause-ok : goal.returns-clause-ok
returns-clause-ok g c =
    reopen_ok g.S.Store c.args.self.now c.in-Some.conn c.in-Ok.opened.0 c.self.inside.owner (over_conn c.self.view_is c.self.inside.conn c.self.inside.was.value refl (sym c.take-conn.ensures.value ∙ c.in-Some.is)).0 (over_conn c.self.view_is c.self.inside.conn c.self.inside.was.value refl (sym c.take-conn.ensures.value ∙ c.in-Some.is)).1 c.in-Ok.ensures.leaves c.self.inside.is_up c.self.inside.numbers (serving_before g.S.Store c.self.inside.owner c.self.inside.conn c.self.inside.was.value c.self.inside.is_up c.self.inside.numbers (sym c.take-conn.ensures.value ∙ c.in-Some.is) c.self.invariant) c.in-Ok.opened.1 c.in-Some-numbers.numbers c.in-Some-numbers.is c.in-Ok.ensures.reopens

pub returns-clause-reopened : goal.returns-clause-reopened
returns-clause-reopened g c =
    reopen_kept g.S.Store c.args.self.now c.in-Some.conn c.in-Ok.opened.0 c.self.inside.owner (over_conn c.self.view_is c.self.inside.conn c.self.inside.was.value refl (sym c.take-conn.ensures.value ∙ c.in-Some.is)).0 (over_conn c.self.view_is c.self.inside.conn c.self.inside.was.value refl (sym c.take-conn.ensures.value ∙ c.in-Some.is)).1 c.in-Ok.ensures.leaves c.self.inside.is_up c.self.inside.numbers (serving_before g.S.Store c.self.inside.owner c.self.inside.conn c.self.inside.was.value c.self.inside.is_up c.self.inside.numbers (sym c.take-conn.ensures.value ∙ c.in-Some.is) c.self.invariant)

pub returns-clause-kept : goal.returns-clause-kept
returns-clause-kept g c =
    reopen_kept g.S.Store c.args.self.now c.in-Some.conn c.in-Ok.opened.0 c.self.inside.owner (over_conn c.self.view_is c.self.inside.conn c.self.inside.was.value refl (sym c.take-conn.ensures.value ∙ c.in-Some.is)).0 (over_conn c.self.view_is c.self.inside.conn c.self.inside.was.value refl (sym c.take-conn.ensures.value ∙ c.in-Some.is)).1 c.in-Ok.ensures.leaves c.self.inside.is_up c.self.inside.numbers (serving_before g.S.Store c.self.inside.owner c.self.inside.conn c.self.inside.was.value c.self.inside.is_up c.self.inside.numbers (sym c.take-conn.ensures.value ∙ c.in-Some.is) c.self.invariant)

pub returns-clause-honest : goal.returns-clause-honest
returns-clause-honest g c =
    reopen_honest g.S.Store c.args.self.now c.in-Some.conn c.in-Ok.opened.0 c.self.inside.owner (over_conn c.self.view_is c.self.inside.conn c.self.inside.was.value refl (sym c.take-conn.ensures.value ∙ c.in-Some.is)).0 (over_conn c.self.view_is c.self.inside.conn c.self.inside.was.value refl (sym c.take-conn.ensures.value ∙ c.in-Some.is)).1 c.in-Ok.ensures.leaves

pub returns-clause-trust : goal.returns-clause-trust
returns-clause-trust g c =
    let honest = reopen_honest g.S.Store c.args.self.now c.in-Some.conn c.in-Ok.opened.0 c.self.inside.owner (over_conn c.self.view_is c.self.inside.conn c.self.inside.was.value refl (sym c.take-conn.ensures.value ∙ c.in-Some.is)).0 (over_conn c.self.view_is c.self.inside.conn c.self.inside.was.value refl (sym c.take-conn.ensures.value ∙ c.in-Some.is)).1 c.in-Ok.ensures.leaves in
    record { honest = honest; clean = honest; sure = λ clean _. clean }
