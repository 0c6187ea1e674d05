use Rattle.std.proofs.Common.{codes}
use Rattle.xml_text.specs.Xml.Xml.{Nothing}
use Rattle.run_picture.specs.Heads.{kind_key}
use Rattle.run_picture.proofs.Rendered.{grown}
use Rattle.run_picture.proofs.heads.kinds.Goals as goal

pub returns : goal.returns
returns c =
    grown _ _ (kind_key 382 (codes "output"))
    (grown _ _ (kind_key 326 (codes "known"))
    (grown _ _ (kind_key 270 (codes "higher"))
    (grown _ _ (kind_key 216 (codes "voted"))
    (grown _ _ (kind_key 156 (codes "accept"))
    (grown _ _ (kind_key 86 (codes "promise"))
    (grown _ _ (kind_key 16 (codes "prepare"))
    (Nothing, c.new-out.ensures.bytes) c.in_ok-add_kind.ensures)
    c.in_ok-add_kind-2.ensures) c.in_ok-add_kind-3.ensures) c.in_ok-add_kind-4.ensures)
    c.in_ok-add_kind-5.ensures) c.in_ok-add_kind-6.ensures) c.in_ok-add_kind-7.ensures
