use Rattle.xml_text.specs.Xml.{shape}
use Rattle.xml_text.specs.Xml.Tag.{Path}
use Rattle.run_picture.proofs.Rendered.{grown}
use Rattle.run_picture.proofs.legend.add_outline.Goals as goal

pub returns : goal.returns
returns c = grown _ _ (shape (Path c.args.steps.now c.args.class.now)) c.requires c.in_ok-add_path.ensures
