use Rattle.acceptor_store_parts.proofs.batch.run_inside.Goals as goal

pub returns-clause-ran : goal.returns-clause-ran
returns-clause-ran g c clean inside = (c.in_ok-execute.field-0, (c.in_ok-execute.ensures.runs clean inside).0)

pub returns-clause-inside : goal.returns-clause-inside
returns-clause-inside g c clean inside = (c.in_ok-execute.ensures.runs clean inside).1.mode
