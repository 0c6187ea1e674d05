use Rattle.acceptor_store_parts.proofs.Words.{state, survives_weaker, Third, facts_query, schema_of}
use Rattle.acceptor_store_parts.proofs.Meaning.{two_columns, facts_is, plain}
use Rattle.acceptor_store_parts.proofs.Owners.{count_shown, owner_shown}
use Rattle.acceptor_store_parts.proofs.Raw.{facts_are_shown}
use Rattle.acceptor_store_parts.proofs.Kept.{all_same, writes_none}
use Rattle.acceptor_store_parts.proofs.Fails.{facts_typed, all_fail}
use Rattle.acceptor_store_parts.proofs.facts.query_facts.Goals as goal

pub returns-clause-held : goal.returns-clause-held
returns-clause-held g c clean =
    facts_are_shown (state g.S.Store c.args.conn.now) (state g.S.Store c.query_all.new.self) c.query_all.result (λ x. x.items) (c.query_all.ensures.ok clean)

pub returns-clause-value : goal.returns-clause-value
returns-clause-value g c clean =
    count_shown (state g.S.Store c.args.conn.now) (state g.S.Store c.query_all.new.self) c.query_all.result (λ x. x.items) (c.query_all.ensures.ok clean)

pub returns-clause-before : goal.returns-clause-before
returns-clause-before g c clean =
    owner_shown (state g.S.Store c.args.conn.now) (state g.S.Store c.query_all.new.self) c.query_all.result (λ x. x.items) (c.query_all.ensures.ok clean)

pub returns-clause-same : goal.returns-clause-same
returns-clause-same g c clean has =
    all_same facts_query _ (state g.S.Store c.args.conn.now) (state g.S.Store c.query_all.new.self) (schema_of Third) has (plain facts_is) c.query_all.result (λ x. x.items) (c.query_all.ensures.ok clean)

pub returns-clause-survives : goal.returns-clause-survives
returns-clause-survives g c =
    survives_weaker (state g.S.Store c.args.conn.now) (state g.S.Store c.query_all.new.self) _ _ (λ _ db may has. writes_none facts_query _ _ _ has (plain facts_is) db may) c.query_all.ensures.survives

pub returns-clause-fails : goal.returns-clause-fails
returns-clause-fails g c clean has = all_fail 3 two_columns facts_is facts_typed (state g.S.Store c.args.conn.now) (state g.S.Store c.query_all.new.self) has c.query_all.result (c.query_all.ensures.err clean)
