use Rattle.std.proofs.Common.{◌+◌, min, drop, ap, ◌∙◌}
use Rattle.grant_machine_parts.proofs.Counted.{width_of, width_step, width_all}
use Rattle.grant_machine_parts.proofs.gaps.minislots.Goals as goal

pub loop-gap-preserved : goal.loop-gap-preserved
loop-gap-preserved c = λ free len are short.
    ap (λ n. n + width_of (drop (c.loop-gap.gap-index + 1) c.args.gaps.now)) (c.saturating_add-count.ensures ∙ ap (λ n. min (c.loop-gap.count + n) 65535) c.saturating_sub.ensures)
    ∙ width_step c.args.gaps.now c.loop-gap.gap-index len c.loop-gap.count _ free are short c.loop-gap-test.true (c.loop-gap.invariant free len are short)

pub returns : goal.returns
returns c = λ free len are short. width_all c.args.gaps.now c.loop-gap.gap-index len c.loop-gap.count free are c.loop-gap-test.false (c.loop-gap.invariant free len are short)
