use Rattle.map_picture.specs.Asked.{asked_name, ended_at, marks_at}
use Rattle.xml_text.specs.Xml.{Xml, join}
use Rattle.map_picture.proofs.Rendered.{behind}
use Rattle.map_picture.proofs.asked.add_asked.Goals as goal

pub returns : goal.returns
returns c =
    let name : Xml = asked_name c.args.axis c.args.y c.args.row.now in
    let marks : Xml = marks_at c.args.axis c.args.y c.args.row.now in
    behind _ _ _ (join name marks) (ended_at c.args.axis c.args.y c.args.row.now)
    (behind _ _ _ name marks c.in_ok-add_asked_name.ensures c.in_ok-add_marks_at.ensures) c.in_ok-add_ended.ensures
