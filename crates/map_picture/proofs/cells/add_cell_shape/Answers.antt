use Rattle.std.proofs.Common.{◌≡◌, ◌∙◌, refl}
use Rattle.xml_text.specs.Xml.{Tag}
use Rattle.xml_text.specs.Xml.Tag.{Rectangle}
use Rattle.map_picture.specs.Cells.{cell_class, cell_width, cell_x, high}
use Rattle.map_picture.proofs.Rendered.{other_shape}
use Rattle.map_picture.proofs.cells.add_cell_shape.Goals as goal

pub returns : goal.returns
returns c =
    let x = cell_x c.args.strip.now.columns.left c.args.strip.now.len c.args.interval.now.from in
    let drawn : Tag = Rectangle c.cell_x-x.result c.args.strip.now.y c.cell_width.result c.high.result c.cell_class.result.now in
    let same : drawn ≡ Rectangle x c.args.strip.now.y (cell_width c.args.strip.now c.args.interval.now) (high c.args.interval.now) (cell_class c.args.interval.now) =
    rw (c.cell_x-x.ensures.value, c.get.ensures.same, c.cell_width.ensures.value, c.high.ensures, c.cell_class.ensures) refl in
    other_shape c.add_block.result _ _ _ _ _ _ (c.as_str.ensures.value ∙ c.in_ok-title.ensures) same c.add_block.ensures
