use Rattle.std.proofs.Common.{sym, ◌∙◌, arith}
use Rattle.acceptor_store.proofs.Words.{number_of, state, survives_then, numbers_of}
use Rattle.acceptor_store.proofs.Reopening.{stays_as}
use Rattle.acceptor_store.proofs.Refusing.{query_refused}
use Rattle.acceptor_store.proofs.opening.numbers_in.Goals as goal

pub returns-in-Some-clause-held : goal.returns-in-Some-clause-held
returns-in-Some-clause-held g c clean by =
    c.in-Ok.ensures.held clean c.args.version by (numbers_of c.args.version (number_of c.in-Some.numbers.0) (number_of c.in-Some.numbers.1)) (sym c.as_slice.ensures.value ∙ c.in-Some.ensures.some)

pub returns-in-Some-clause-same : goal.returns-in-Some-clause-same
returns-in-Some-clause-same g c clean schema = stays_as c.args.version (state g.S.Store c.args.conn.now) (state g.S.Store c.query_numbers.new.conn) (c.in-Ok.ensures.same clean c.args.version schema)

pub returns-in-Err-clause-survives : goal.returns-in-Err-clause-survives
returns-in-Err-clause-survives g c =
    survives_then (state g.S.Store c.args.conn.now) (state g.S.Store c.query_numbers.new.conn) (state g.S.Store c.stop_for.new.conn) _ _ _ (λ _ db other. other) (λ _ db no. absurd no) c.query_numbers.ensures.survives c.stop_for.ensures.survives

pub returns-in-Err-clause-refused : goal.returns-in-Err-clause-refused
returns-in-Err-clause-refused g c clean schema refused =
    query_refused (state g.S.Store c.args.conn.now) (state g.S.Store c.query_numbers.new.conn) (state g.S.Store c.stop_for.new.conn) c.in-Err.error c.stop_for.result c.stopped.result c.stopped.ensures.value refused
    (c.stop_for.ensures.told clean) (c.in-Err.ensures.fails (omega (arith, c.stop_for.ensures.survives.clean, clean)) c.args.version schema) c.stop_for.ensures.survives
