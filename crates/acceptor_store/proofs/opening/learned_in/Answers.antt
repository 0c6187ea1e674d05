use Rattle.acceptor_store.proofs.Words.{state, survives_weaker}
use Rattle.acceptor_store.proofs.Reopening.{has_learned, learned_held}
use Rattle.acceptor_store.proofs.opening.learned_in.Goals as goal

pub returns-in_default-clause-held : goal.returns-in_default-clause-held
returns-in_default-clause-held g c clean = learned_held c.args.version (has_learned c.args.version c.in_default.not-First) (state g.S.Store c.args.conn.now) c.kept_learned.result (λ x. x.items) (c.kept_learned.ensures.held clean)

pub returns-in_default-clause-same : goal.returns-in_default-clause-same
returns-in_default-clause-same g c clean schema = c.kept_learned.ensures.same clean c.args.version (has_learned c.args.version c.in_default.not-First) schema

pub returns-in_default-clause-foreign : goal.returns-in_default-clause-foreign
returns-in_default-clause-foreign g c clean foreign = c.kept_learned.ensures.foreign clean foreign c.args.version (has_learned c.args.version c.in_default.not-First)

pub returns-in_default-clause-survives : goal.returns-in_default-clause-survives
returns-in_default-clause-survives g c =
    survives_weaker (state g.S.Store c.args.conn.now) (state g.S.Store c.kept_learned.new.conn) _ _ (λ _ db none has. none c.args.version (has_learned c.args.version c.in_default.not-First) has) c.kept_learned.ensures.survives

pub returns-in_default-clause-refused : goal.returns-in_default-clause-refused
returns-in_default-clause-refused g c clean = c.kept_learned.ensures.refused clean c.args.version (has_learned c.args.version c.in_default.not-First)
