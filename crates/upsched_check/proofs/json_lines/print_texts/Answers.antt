use Rattle.upsched_check.proofs.Valued.{texts_more}
use Rattle.upsched_check.proofs.json_lines.print_texts.Goals as goal

pub loop-text-preserved : goal.loop-text-preserved
loop-text-preserved g c =
    texts_more c.args.texts.now c.loop-text.text-index c.text-item.result _ _ _ c.loop-text-test.true c.text-item.is c.loop-text.invariant
    (rw c.as_str.ensures.value at c.in_ok-print_line.ensures.printed)
