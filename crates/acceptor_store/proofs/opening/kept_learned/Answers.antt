use Rattle.std.proofs.Common.{◌≡◌, refl, sym, subst, ◌∙◌, arith}
use Rattle.acceptor_store.proofs.Words.{AreRowsFrom, state, survives_then, all_learned_shown}
use Rattle.acceptor_store.proofs.Reopening.{stays_as}
use Rattle.acceptor_store.proofs.Refusing.{query_refused}
use Rattle.acceptor_store_parts.proofs.Callers.{table_of_learned}
use Rattle.acceptor_store.proofs.opening.kept_learned.Goals as goal

pub returns-clause-held : goal.returns-clause-held
returns-clause-held g c clean version keeps by =
    c.in-Ok.ensures.held clean version keeps by c.in-Ok-read_learned.learned.items (sym c.as_slice.ensures.value ∙ c.in-Ok-read_learned.ensures.ok)

pub returns-clause-fits : goal.returns-clause-fits
returns-clause-fits g c = (c.in-Ok-read_learned.ensures.fits, subst (AreRowsFrom 1) c.as_slice-2.ensures.value (c.if-not-are_rising.ensures.yes refl))

pub returns-clause-same : goal.returns-clause-same
returns-clause-same g c clean version keeps schema = stays_as version (state g.S.Store c.args.conn.now) (state g.S.Store c.query_all_learned.new.conn) (c.in-Ok.ensures.same clean version keeps schema)

pub returns-then-not-are_rising-clause-foreign : goal.returns-then-not-are_rising-clause-foreign
returns-then-not-are_rising-clause-foreign g c clean foreign version keeps d was ours =
    let same : c.in-Ok-read_learned.learned.items ≡ d.learned = all_learned_shown c.in-Ok-read_learned.learned.items d.learned (sym c.in-Ok-read_learned.ensures.ok ∙ (c.as_slice.ensures.value ∙ c.in-Ok.ensures.value clean version d.learned keeps was.schema was.tables.sound.1 (table_of_learned version keeps _ d was.tables.learned_are))) in
    c.if-not-are_rising.ensures.no refl (subst (AreRowsFrom 1) (sym (c.as_slice-2.ensures.value ∙ same)) was.tables.sound.1)

pub returns-in-Err-clause-survives : goal.returns-in-Err-clause-survives
returns-in-Err-clause-survives g c =
    survives_then (state g.S.Store c.args.conn.now) (state g.S.Store c.query_all_learned.new.conn) (state g.S.Store c.stop_for.new.conn) _ _ _ (λ _ db other. other) (λ _ db no. absurd no) c.query_all_learned.ensures.survives c.stop_for.ensures.survives

pub returns-in-Err-clause-refused : goal.returns-in-Err-clause-refused
returns-in-Err-clause-refused g c clean version keeps schema refused =
    query_refused (state g.S.Store c.args.conn.now) (state g.S.Store c.query_all_learned.new.conn) (state g.S.Store c.stop_for.new.conn) c.in-Err.error c.stop_for.result c.stopped.result c.stopped.ensures.value refused
    (c.stop_for.ensures.told clean) (c.in-Err.ensures.fails (omega (arith, c.stop_for.ensures.survives.clean, clean)) version keeps schema) c.stop_for.ensures.survives

pub returns-in-Err-Down-clause-foreign : goal.returns-in-Err-Down-clause-foreign
returns-in-Err-Down-clause-foreign g c clean foreign version keeps d was ours =
    c.in-Err-Down.ensures.wrong c.in-Err-Down.field-0-is d.learned ours.learned
    (c.as_slice.ensures.value ∙ c.in-Ok.ensures.value clean version d.learned keeps was.schema was.tables.sound.1 (table_of_learned version keeps _ d was.tables.learned_are))
