use Rattle.std.proofs.Common.{◌≡◌, refl, sym, subst, ◌∙◌, arith}
use Rattle.acceptor_store.proofs.Words.{AreRowsFrom, state, survives_then, all_shown}
use Rattle.acceptor_store.proofs.Reopening.{stays_as}
use Rattle.acceptor_store.proofs.Refusing.{query_refused}
use Rattle.acceptor_store.proofs.opening.votes_in.Goals as goal

pub returns-clause-held : goal.returns-clause-held
returns-clause-held g c clean version by =
    c.in-Ok.ensures.held clean version by c.in-Ok-read_votes.votes (sym c.as_slice.ensures.value ∙ c.in-Ok-read_votes.ensures.ok)

pub returns-clause-fits : goal.returns-clause-fits
returns-clause-fits g c = (c.in-Ok-read_votes.ensures.fits, subst (AreRowsFrom 1) c.rows.ensures (c.if-not-are_in_order.ensures.yes refl))

pub returns-clause-same : goal.returns-clause-same
returns-clause-same g c clean version schema = stays_as version (state g.S.Store c.args.conn.now) (state g.S.Store c.query_all_votes.new.conn) (c.in-Ok.ensures.same clean version schema)

pub returns-then-not-are_in_order-clause-foreign : goal.returns-then-not-are_in_order-clause-foreign
returns-then-not-are_in_order-clause-foreign g c clean foreign version d was ours =
    let same : c.in-Ok-read_votes.votes ≡ d.votes = all_shown c.in-Ok-read_votes.votes d.votes (sym c.in-Ok-read_votes.ensures.ok ∙ (c.as_slice.ensures.value ∙ c.in-Ok.ensures.value clean version d.votes was.schema was.tables.sound.0 was.tables.votes_are)) in
    c.if-not-are_in_order.ensures.no refl (subst (AreRowsFrom 1) (sym (c.rows.ensures ∙ same)) was.tables.sound.0)

pub returns-in-Err-clause-survives : goal.returns-in-Err-clause-survives
returns-in-Err-clause-survives g c =
    survives_then (state g.S.Store c.args.conn.now) (state g.S.Store c.query_all_votes.new.conn) (state g.S.Store c.stop_for.new.conn) _ _ _ (λ _ db other. other) (λ _ db no. absurd no) c.query_all_votes.ensures.survives c.stop_for.ensures.survives

pub returns-in-Err-clause-refused : goal.returns-in-Err-clause-refused
returns-in-Err-clause-refused g c clean version schema refused =
    query_refused (state g.S.Store c.args.conn.now) (state g.S.Store c.query_all_votes.new.conn) (state g.S.Store c.stop_for.new.conn) c.in-Err.error c.stop_for.result c.stopped.result c.stopped.ensures.value refused
    (c.stop_for.ensures.told clean) (c.in-Err.ensures.fails (omega (arith, c.stop_for.ensures.survives.clean, clean)) version schema) c.stop_for.ensures.survives

pub returns-in-Err-Down-clause-foreign : goal.returns-in-Err-Down-clause-foreign
returns-in-Err-Down-clause-foreign g c clean foreign version d was ours =
    c.in-Err-Down.ensures.wrong c.in-Err-Down.field-0-is d.votes ours.casts (c.as_slice.ensures.value ∙ c.in-Ok.ensures.value clean version d.votes was.schema was.tables.sound.0 was.tables.votes_are)
