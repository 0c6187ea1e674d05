use Rattle.acceptor_store_parts.proofs.Words.{state, survives_weaker, all_learned_query, schema_of}
use Rattle.acceptor_store_parts.proofs.Meaning.{two_columns, all_learned_is, plain}
use Rattle.acceptor_store_parts.proofs.Answered.{all_learned_found}
use Rattle.acceptor_store_parts.proofs.Raw.{learned_are_shown}
use Rattle.acceptor_store_parts.proofs.Kept.{all_same, writes_none}
use Rattle.acceptor_store_parts.proofs.Fails.{learned_typed, all_fail}
use Rattle.acceptor_store_parts.proofs.learned.query_all_learned.Goals as goal

pub returns-clause-held : goal.returns-clause-held
returns-clause-held g c clean =
    learned_are_shown (state g.S.Store c.args.conn.now) (state g.S.Store c.query_all.new.self) c.query_all.result (λ x. x.items) (c.query_all.ensures.ok clean)

pub returns-clause-same : goal.returns-clause-same
returns-clause-same g c clean version keeps has =
    all_same all_learned_query _ (state g.S.Store c.args.conn.now) (state g.S.Store c.query_all.new.self) (schema_of version) has (plain (all_learned_is version keeps)) c.query_all.result (λ x. x.items) (c.query_all.ensures.ok clean)

pub returns-clause-survives : goal.returns-clause-survives
returns-clause-survives g c =
    survives_weaker (state g.S.Store c.args.conn.now) (state g.S.Store c.query_all.new.self) _ _ (λ _ db may version keeps has. writes_none all_learned_query _ _ _ has (plain (all_learned_is version keeps)) db may) c.query_all.ensures.survives

pub returns-clause-value : goal.returns-clause-value
returns-clause-value g c clean =
    all_learned_found (state g.S.Store c.args.conn.now) (state g.S.Store c.query_all.new.self) c.query_all.result (λ x. x.items) (c.query_all.ensures.ok clean)

pub returns-clause-fails : goal.returns-clause-fails
returns-clause-fails g c clean version keeps has = all_fail 2 two_columns (all_learned_is version keeps) (learned_typed version keeps) (state g.S.Store c.args.conn.now) (state g.S.Store c.query_all.new.self) has c.query_all.result (c.query_all.ensures.err clean)
