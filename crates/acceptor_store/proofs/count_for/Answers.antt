use Rattle.std.proofs.Common.{ap, refl, ◌∙◌}
use Rattle.acceptor_store.proofs.Words.{schema_for, state, survives_weaker}
use Rattle.acceptor_store.proofs.count_for.Goals as goal

pub returns-in-None-clause-serves : goal.returns-in-None-clause-serves
returns-in-None-clause-serves g c clean has = rw c.in-None.is (λ x was. (0, refl, record { serves = was; counted = tt }))

pub returns-in-Some-clause-serves : goal.returns-in-Some-clause-serves
returns-in-Some-clause-serves g c clean has = rw c.in-Some.is (c.owner_count.ensures.serves clean (has ∙ ap schema_for c.in-Some.is))

pub returns-in-Some-clause-survives : goal.returns-in-Some-clause-survives
returns-in-Some-clause-survives g c =
    survives_weaker (state g.S.Store c.args.conn.now) (state g.S.Store c.owner_count.new.conn) _ _ (λ _ db other has. other (has ∙ ap schema_for c.in-Some.is)) c.owner_count.ensures.survives
