use Rattle.xml_text.specs.Xml.{Xml, join}
use Rattle.map_picture.specs.Owners.{owner_name_at, grants, flow_at}
use Rattle.map_picture.specs.Windows.{windows}
use Rattle.map_picture.proofs.Rendered.{behind}
use Rattle.map_picture.proofs.owners.add_owner.Goals as goal

pub returns : goal.returns
returns c =
    let name : Xml = owner_name_at c.args.owner.now in
    let due : Xml = windows c.args.deeds.now c.args.owner.now in
    let given : Xml = grants c.args.deeds.now c.args.owner.now in
    behind _ _ _ (join (join name due) given) (flow_at c.args.owner.now)
    (behind _ _ _ (join name due) given
    (behind _ _ _ name due c.in_ok-add_owner_name.ensures c.in_ok-add_windows.ensures)
    c.in_ok-add_grants.ensures) c.in_ok-add_flow.ensures
