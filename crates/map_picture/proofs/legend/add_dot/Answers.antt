use Rattle.xml_text.specs.Xml.{shape}
use Rattle.xml_text.specs.Xml.Tag.{Circle}
use Rattle.map_picture.proofs.Rendered.{grown}
use Rattle.map_picture.proofs.legend.add_dot.Goals as goal

pub returns : goal.returns
returns c = grown _ _ (shape (Circle c.args.middle.0 c.args.middle.1 4 c.args.class.now)) c.requires c.in_ok-add_circle.ensures
