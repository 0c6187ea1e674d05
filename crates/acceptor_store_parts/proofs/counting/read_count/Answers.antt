use Rattle.std.proofs.Common.{◌≡◌, sym, subst, ◌∙◌, arith, refl, IfSome, IfNone, IfNone, IfSome}
use Rattle.acceptor_store_parts.proofs.Words.{ShowsCount, IsCount, IsOwner, Owner, Version, schema_of, state}
use Rattle.acceptor_store_parts.proofs.Counted.{count_none, count_read, found_facts}
use Rattle.acceptor_store_parts.proofs.counting.read_count.Goals as goal

pub returns-then-not-has_fact_table-clause-count : goal.returns-then-not-has_fact_table-clause-count
returns-then-not-has_fact_table-clause-count g c clean =
    count_none (state g.S.Store c.args.conn.now) c.in-Ok.found (rw c.schema.ensures.value at c.in-Ok.ensures.some) (rw c.schema.ensures.value at c.in-Ok.ensures.none) (λ has. absurd (let e = c.if-not-has_fact_table.ensures.1 has in cc))

pub returns-in-Ok-query_facts-clause-count : goal.returns-in-Ok-query_facts-clause-count
returns-in-Ok-query_facts-clause-count g c clean =
    let has = c.if-not-has_fact_table.ensures.0 refl in
    let schema = found_facts (state g.S.Store c.args.conn.now).now.schema c.in-Ok.found (rw c.schema.ensures.value at c.in-Ok.ensures.some) has in
    count_read (state g.S.Store c.args.conn.now) c.in-Ok-query_facts.rows.items c.count_in.result schema (λ owner n. c.in-Ok-query_facts.ensures.value clean owner n) (c.in-Ok-query_facts.ensures.held clean)
    (rw c.as_slice.ensures.value at c.count_in.ensures.some) (rw c.as_slice.ensures.value at c.count_in.ensures.none)

pub returns-in-Ok-query_facts-clause-same : goal.returns-in-Ok-query_facts-clause-same
returns-in-Ok-query_facts-clause-same g c clean =
    let has = c.if-not-has_fact_table.ensures.0 refl in
    (c.in-Ok-query_facts.ensures.same clean (found_facts (state g.S.Store c.args.conn.now).now.schema c.in-Ok.found (rw c.schema.ensures.value at c.in-Ok.ensures.some) has)).0.now_is
