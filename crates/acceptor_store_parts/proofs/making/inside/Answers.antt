use Rattle.std.proofs.Common.{arith}
use Rattle.acceptor_store_parts.proofs.Makes.{inside_then, on_ok}
use Rattle.acceptor_store_parts.proofs.making.inside.Goals as goal

pub returns-in-Tables-clause-made : goal.returns-in-Tables-clause-made
returns-in-Tables-clause-made g c = rw c.in-Tables.is c.make_inside.ensures.made

pub returns-in_ok-make_inside-in-OwnedTables-clause-made : goal.returns-in_ok-make_inside-in-OwnedTables-clause-made
returns-in_ok-make_inside-in-OwnedTables-clause-made g c clean opened =
    let first = c.in_ok-make_inside-in-OwnedTables.ensures.made (omega (arith, c.own_inside.ensures.survives.clean, clean)) opened in
    rw c.in-OwnedTables.is (on_ok c.own_inside.result (c.own_inside.ensures.made clean first.0) (λ owned. (owned.0, λ x was. owned.1 x (first.1 x was).0)))

pub returns-in_ok-make_inside-in-OwnedTables-clause-survives : goal.returns-in_ok-make_inside-in-OwnedTables-clause-survives
returns-in_ok-make_inside-in-OwnedTables-clause-survives g c = inside_then c.make_inside-in-OwnedTables.ensures.survives c.own_inside.ensures.survives

pub returns-in-Counted-clause-made : goal.returns-in-Counted-clause-made
returns-in-Counted-clause-made g c clean opened = rw c.in-Counted.is (on_ok c.count_inside.result (c.count_inside.ensures.made clean opened) (λ made. made c.in-Counted.field-0))
