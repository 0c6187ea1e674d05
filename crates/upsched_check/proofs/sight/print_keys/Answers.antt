use Rattle.text_faults.specs.Unread.{key_there}
use Rattle.upsched_check.specs.Reports.{unread_line}
use Rattle.upsched_check.proofs.Lines.{one_line_more}
use Rattle.upsched_check.proofs.sight.print_keys.Goals as goal

pub loop-key-preserved : goal.loop-key-preserved
loop-key-preserved g c =
    one_line_more (unread_line c.args.path.now) key_there c.args.keys.now c.loop-key.key-index c.key-item.result _ _ _ c.loop-key-test.true c.key-item.is c.loop-key.invariant c.in_ok-print_key.ensures.printed
