use Rattle.std.proofs.Common.{arith}
use Rattle.std.proofs.lemmas.List.Edits.{map_over_more}
use Rattle.std.proofs.lemmas.List.{get_or_default}
use Rattle.modem.specs.Spans.{forgotten}
use Rattle.modem.proofs.span.forget_in.Goals as goal

pub loop-span-preserved : goal.loop-span-preserved
loop-span-preserved c =
    (map_over_more forgotten c.args.spans.now c.loop-span.spans c.loop-span.span-index _ c.loop-span-test.true c.loop-span.invariant (get_or_default c.loop-span.spans c.loop-span.span-index _ _ (omega arith)))
