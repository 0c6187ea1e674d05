use Rattle.std.proofs.Common.{codes}
use Rattle.xml_text.specs.Xml.{pattern}
use Rattle.xml_text.specs.Xml.Xml.{Nothing}
use Rattle.map_picture.proofs.Rendered.{grown}
use Rattle.map_picture.proofs.style.patterns.Goals as goal

pub returns : goal.returns
returns c =
    grown _ _ (pattern (codes "opening") 6 (codes "M-1 7L7 -1M-1 -1L7 7") (codes "hatch"))
    (grown _ _ (pattern (codes "open") 6 (codes "M-1 7L7 -1") (codes "hatch")) (Nothing, c.new-out.ensures.bytes) c.in_ok-add_pattern.ensures) c.in_ok-add_pattern-2.ensures
