use Rattle.std.proofs.Common.{sym, subst, inl, inr, None, Some, ◌∙◌, arith}
use Rattle.acceptor_store.proofs.Words.{ShowsAt, state, survives_then}
use Rattle.acceptor_store.proofs.CountsKnown.{named_held, named_only}
use Rattle.acceptor_store.proofs.Refusing.{query_refused}
use Rattle.acceptor_store.proofs.owned.owner_in.Goals as goal

pub returns-in-Some-clause-held : goal.returns-in-Some-clause-held
returns-in-Some-clause-held g c clean by =
    let shows = subst (λ rows. ShowsAt rows c.in-Some.found.0 c.in-Some.found.1) c.as_slice.ensures.value c.in-Some.ensures.some in
    named_held c.in-Some.found.0 (state g.S.Store c.args.conn.now).now.trees c.in-Ok.shown.items c.in-Some.found.1 c.in-Some.ensures.fits.1 (c.in-Ok.ensures.held clean by) shows

pub returns-in-Some-clause-only : goal.returns-in-Some-clause-only
returns-in-Some-clause-only g c clean schema =
    let shows = subst (λ rows. ShowsAt rows c.in-Some.found.0 c.in-Some.found.1) c.as_slice.ensures.value c.in-Some.ensures.some in
    named_only c.in-Some.found.0 (state g.S.Store c.args.conn.now).now.trees c.in-Ok.shown.items c.in-Some.found.1 (λ o n at. c.in-Ok.ensures.value clean o n schema at) (λ o before. c.in-Ok.ensures.before clean o schema before) shows

pub returns-clause-foreign : goal.returns-clause-foreign
returns-clause-foreign g c clean foreign schema owner fits named = elim named [
  | inl counted ↦ c.in-None.ensures.none owner (Some counted.0) fits (c.as_slice.ensures.value ∙ c.in-Ok.ensures.value clean owner counted.0 schema counted.1)
  | inr before ↦ c.in-None.ensures.none owner None fits (c.as_slice.ensures.value ∙ c.in-Ok.ensures.before clean owner schema before)
]

pub returns-in-Err-clause-survives : goal.returns-in-Err-clause-survives
returns-in-Err-clause-survives g c =
    survives_then (state g.S.Store c.args.conn.now) (state g.S.Store c.query_facts.new.conn) (state g.S.Store c.stop_for.new.conn) _ _ _ (λ _ db other. other) (λ _ db no. absurd no) c.query_facts.ensures.survives c.stop_for.ensures.survives

pub returns-in-Err-clause-refused : goal.returns-in-Err-clause-refused
returns-in-Err-clause-refused g c clean schema refused =
    query_refused (state g.S.Store c.args.conn.now) (state g.S.Store c.query_facts.new.conn) (state g.S.Store c.stop_for.new.conn) c.in-Err.error c.stop_for.result c.stopped.result c.stopped.ensures.value refused
    (c.stop_for.ensures.told clean) (c.in-Err.ensures.fails (omega (arith, c.stop_for.ensures.survives.clean, clean)) schema) c.stop_for.ensures.survives
