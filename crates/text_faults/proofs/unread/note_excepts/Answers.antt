use Rattle.std.proofs.Common.{arith}
use Rattle.text_faults.specs.Unread.{except_unread}
use Rattle.text_faults.proofs.Numbered.{noted_item}
use Rattle.text_faults.proofs.unread.note_excepts.Goals as goal

pub loop-i-preserved : goal.loop-i-preserved
loop-i-preserved c =
    noted_item (except_unread c.args.event) 0 c.loop-i.i c.loop-i.i c.args.items.now c.index-items-i.result _ _ _ c.loop-i-test.true c.index-items-i.is (omega arith) c.loop-i.invariant c.in_ok-note_keys.ensures
