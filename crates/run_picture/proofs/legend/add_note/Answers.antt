use Rattle.std.proofs.Common.{codes}
use Rattle.xml_text.specs.Xml.{said}
use Rattle.xml_text.specs.Xml.Tag.{Words}
use Rattle.run_picture.proofs.Rendered.{grown}
use Rattle.run_picture.proofs.legend.add_note.Goals as goal

pub returns : goal.returns
returns c = grown _ _ (said (Words c.args.point.0 c.args.point.1 (codes "s mute")) c.args.words.now) c.requires c.in_ok-add_words.ensures
