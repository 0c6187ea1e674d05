use Rattle.std.proofs.Common.{◌∙◌}
use Rattle.xml_text.specs.Xml.{shape}
use Rattle.xml_text.specs.Xml.Tag.{Rectangle}
use Rattle.map_picture.proofs.Rendered.{begun}
use Rattle.map_picture.proofs.shapes.add_block.Goals as goal

pub returns : goal.returns
returns c =
    c.add_titled.ensures (shape (Rectangle c.args.area.corner.0 c.args.area.corner.1 c.args.area.size.0 c.args.area.size.1 c.args.class.now))
    (c.as_str.ensures.value ∙ begun _ _ (shape (Rectangle c.args.area.corner.0 c.args.area.corner.1 c.args.area.size.0 c.args.area.size.1 c.args.class.now)) c.new-inside.ensures.bytes c.in_ok-add_rectangle.ensures)
