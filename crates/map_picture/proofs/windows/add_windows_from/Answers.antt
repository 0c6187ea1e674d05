use Rattle.xml_text.proofs.Callers.{each_more}
use Rattle.map_picture.specs.Windows.{counted, window_at}
use Rattle.map_picture.proofs.windows.add_windows_from.Goals as goal

pub loop-i-preserved : goal.loop-i-preserved
loop-i-preserved c =
    each_more c.loop-i.i (window_at c.args.owner.now (counted c.args.dues) c.args.found.now c.first-first.result) _ _ _ c.loop-i.invariant
    (rw (c.stretch-stretch.ensures, c.is_missed-missed.ensures) at c.in_ok-add_stroke.ensures)
