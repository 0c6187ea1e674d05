use Rattle.acceptor_store.proofs.numbers_at.Goals as goal

pub returns-in-Ok-clause-stays : goal.returns-in-Ok-clause-stays
returns-in-Ok-clause-stays g c clean = c.in-Ok.ensures.stays clean tt
