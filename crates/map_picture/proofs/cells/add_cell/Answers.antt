use Rattle.map_picture.specs.Cells.{cell_shape, cell_words}
use Rattle.map_picture.proofs.Rendered.{behind}
use Rattle.map_picture.proofs.cells.add_cell.Goals as goal

pub returns : goal.returns
returns c =
    behind _ _ _ (cell_shape c.args.strip.now c.args.interval.now) (cell_words c.args.strip.now c.args.interval.now)
    c.in_ok-add_cell_shape.ensures c.in_ok-add_cell_words.ensures
