use Rattle.std.proofs.Common.{codes}
use Rattle.xml_text.specs.Xml.{arrow_head}
use Rattle.xml_text.specs.Xml.Xml.{Nothing}
use Rattle.run_picture.proofs.Rendered.{grown}
use Rattle.run_picture.proofs.heads.heads.Goals as goal

pub returns : goal.returns
returns c =
    grown _ _ (arrow_head (codes "h-output") (codes "f-output"))
    (grown _ _ (arrow_head (codes "h-known") (codes "f-known"))
    (grown _ _ (arrow_head (codes "h-higher") (codes "f-higher"))
    (grown _ _ (arrow_head (codes "h-voted") (codes "f-voted"))
    (grown _ _ (arrow_head (codes "h-accept") (codes "f-accept"))
    (grown _ _ (arrow_head (codes "h-promise") (codes "f-promise"))
    (grown _ _ (arrow_head (codes "h-prepare") (codes "f-prepare"))
    (Nothing, c.new-out.ensures.bytes) c.in_ok-add_arrow_head.ensures)
    c.in_ok-add_arrow_head-2.ensures) c.in_ok-add_arrow_head-3.ensures) c.in_ok-add_arrow_head-4.ensures)
    c.in_ok-add_arrow_head-5.ensures) c.in_ok-add_arrow_head-6.ensures) c.in_ok-add_arrow_head-7.ensures
