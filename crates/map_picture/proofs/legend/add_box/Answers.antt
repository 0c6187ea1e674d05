use Rattle.xml_text.specs.Xml.{shape}
use Rattle.xml_text.specs.Xml.Tag.{Rectangle}
use Rattle.map_picture.proofs.Rendered.{grown}
use Rattle.map_picture.proofs.legend.add_box.Goals as goal

pub returns : goal.returns
returns c =
    grown _ _ (shape (Rectangle c.args.area.corner.0 c.args.area.corner.1 c.args.area.size.0 c.args.area.size.1 c.args.class.now)) c.requires c.in_ok-add_rectangle.ensures
