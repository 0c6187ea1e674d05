use Rattle.std.proofs.lemmas.Map.Iter.{rest_more}
use Rattle.std.specs.Map.Iter.{deref_pair}
use Rattle.upsched_check.specs.StatsAsJson.{sid_value}
use Rattle.upsched_check.proofs.Valued.{row_valued}
use Rattle.upsched_check.proofs.json_lines.print_sids.Goals as goal

pub loop-key-preserved : goal.loop-key-preserved
loop-key-preserved g c =
    row_valued sid_value _ _ _ _ (c.in-Some.key.now, c.in-Some.tally.now) c.loop-key.key-iterator c.next.new.self
    (rest_more deref_pair c.loop-key.key-iterator c.next.new.self c.next.result (c.in-Some.key, c.in-Some.tally) c.in-Some.is c.next.ensures.steps)
    c.loop-key.invariant c.in_ok-print_sid.ensures
