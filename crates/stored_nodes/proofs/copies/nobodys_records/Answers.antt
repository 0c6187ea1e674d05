use Rattle.stored_nodes.proofs.copies.nobodys_records.Goals as goal

pub returns-in-Ok : goal.returns-in-Ok
returns-in-Ok g c honest = let it = c.in-Ok.ensures.holds honest in (it.0, it.2)
