use Rattle.std.proofs.Common.{◌==◌, cond, arith}
use Rattle.std.proofs.lemmas.List.Edits.{map_over_more}
use Rattle.std.proofs.lemmas.List.{get_or_default}
use Rattle.modem.specs.declared.span.Span.{Span}
use Rattle.modem.proofs.span.set_in.Goals as goal

pub loop-span-preserved : goal.loop-span-preserved
loop-span-preserved c =
    rw c.chosen.ensures (map_over_more (λ (s : Span). cond (s.channel == c.args.row.channel) c.args.row s) c.args.spans.now c.loop-span.spans c.loop-span.span-index _ c.loop-span-test.true c.loop-span.invariant (get_or_default c.loop-span.spans c.loop-span.span-index _ _ (omega arith)))
