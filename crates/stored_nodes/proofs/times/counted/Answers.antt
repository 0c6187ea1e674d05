use Rattle.std.proofs.Common.{◌≡◌, ◌∙◌, sym}
use Rattle.acceptor_store_parts.specs.Tables.{schema_of}
use Rattle.acceptor_store_parts.specs.declared.Version.TheVariants.{Fourth}
use Rattle.sqlite.specs.Held.{state}
use Rattle.stored_nodes.proofs.Timed.{reads_none, reads_some}
use Rattle.stored_nodes.proofs.times.counted.Goals as goal

pub returns-in-Ok-Some : goal.returns-in-Ok-Some
returns-in-Ok-Some g c never sound =
    let same : (state g.S.Store c.args.conn).now.schema ≡ schema_of Fourth = sym c.schema.ensures.value ∙ c.in_ok-has_counts.ensures.yes c.if-not-branch.false in
    reads_some (state g.S.Store c.args.conn) c.in-Ok-Some.field-0 c.in-Ok-Some.count c.in-Ok-Some.field-0-is same sound (c.in-Ok-Some.ensures.count (never _))

pub returns-in-Ok-None : goal.returns-in-Ok-None
returns-in-Ok-None g c never sound =
    let same : (state g.S.Store c.args.conn).now.schema ≡ schema_of Fourth = sym c.schema.ensures.value ∙ c.in_ok-has_counts.ensures.yes c.if-not-branch.false in
    reads_none (state g.S.Store c.args.conn) c.in-Ok-None.field-0 c.in-Ok-None.field-0-is same (c.in-Ok-None.ensures.count (never _))
