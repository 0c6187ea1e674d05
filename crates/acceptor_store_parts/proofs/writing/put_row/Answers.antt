use Rattle.acceptor_store_parts.proofs.writing.put_row.Goals as goal

pub returns-in-None-clause-ok : goal.returns-in-None-clause-ok
returns-in-None-clause-ok g c clean = rw c.in-None.is (c.put_alone.ensures.ok clean)
