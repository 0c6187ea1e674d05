use Rattle.xml_text.proofs.Callers.{each_more}
use Rattle.map_picture.specs.Cells.{cell_at}
use Rattle.map_picture.proofs.cells.add_cells.Goals as goal

pub loop-k-preserved : goal.loop-k-preserved
loop-k-preserved c = each_more c.loop-k.k (cell_at c.args.strip.now c.args.intervals.now) _ _ _ c.loop-k.invariant c.in_ok-add_cell_at.ensures
