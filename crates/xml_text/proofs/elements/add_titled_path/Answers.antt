use Rattle.std.proofs.Common.{◌∙◌}
use Rattle.xml_text.proofs.Pushed.{begun}
use Rattle.xml_text.specs.Xml.{shape}
use Rattle.xml_text.specs.Xml.Tag.{Path}
use Rattle.xml_text.proofs.elements.add_titled_path.Goals as goal

pub returns : goal.returns
returns c = c.add_titled.ensures (shape (Path c.args.steps.now c.args.class.now)) (c.as_str.ensures.value ∙ begun _ _ _ c.new-inside.ensures.bytes c.in_ok-add_path.ensures)
