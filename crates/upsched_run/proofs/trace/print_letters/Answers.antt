use Rattle.upsched_run.proofs.Told.{one_letter}
use Rattle.upsched_run.proofs.trace.print_letters.Goals as goal

pub loop-index-preserved : goal.loop-index-preserved
loop-index-preserved g c =
    one_letter c.args.style.now.named c.args.style.now.word.now c.args.listed.now.letters.now c.args.listed.now.first c.loop-index.index c.letter-item.result _ _ _ _ c.loop-index-test.true c.letter-item.is
    c.loop-index.invariant c.in_ok-print_letter.ensures.printed
