use Rattle.xml_text.specs.Xml.{shape}
use Rattle.xml_text.specs.Xml.Tag.{Circle}
use Rattle.run_picture.proofs.Rendered.{grown}
use Rattle.run_picture.proofs.legend.add_dot.Goals as goal

pub returns : goal.returns
returns c =
    grown _ _ (shape (Circle c.args.disc.middle.0 c.args.disc.middle.1 c.args.disc.radius c.args.class.now)) c.requires c.in_ok-add_circle.ensures
