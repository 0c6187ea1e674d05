use Rattle.std.proofs.Common.{◌∙◌}
use Rattle.xml_text.proofs.Pushed.{begun}
use Rattle.xml_text.specs.Xml.{shape}
use Rattle.xml_text.specs.Xml.Tag.{Circle}
use Rattle.xml_text.proofs.elements.add_titled_circle.Goals as goal

pub returns : goal.returns
returns c = c.add_titled.ensures (shape (Circle c.args.disc.middle.0 c.args.disc.middle.1 c.args.disc.radius c.args.class.now)) (c.as_str.ensures.value ∙ begun _ _ _ c.new-inside.ensures.bytes c.in_ok-add_circle.ensures)
