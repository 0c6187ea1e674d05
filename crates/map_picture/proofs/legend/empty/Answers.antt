use Rattle.xml_text.specs.Xml.Xml.{Nothing}
use Rattle.map_picture.proofs.legend.empty.Goals as goal

pub returns : goal.returns
returns c = (Nothing, c.new.ensures.bytes)
