use Rattle.xml_text.specs.Xml.{Xml, join}
use Rattle.plan_account.specs.Accounts.{why_last}
use Rattle.map_picture.specs.Asked.{asked_line, before_at, sent_mark, told_mark, end_mark}
use Rattle.map_picture.proofs.Rendered.{behind}
use Rattle.map_picture.proofs.asked.add_marks.Goals as goal

pub returns : goal.returns
returns c =
    let line : Xml = asked_line c.args.axis c.args.y c.args.row.now in
    let before : Xml = before_at c.args.axis c.args.y c.args.row.now in
    let sent : Xml = sent_mark c.args.axis c.args.y c.args.row.now in
    let told : Xml = told_mark c.args.axis c.args.y c.args.row.now.told (why_last c.args.row.now.told c.args.row.now.fate) in
    behind _ _ _ (join (join (join line before) sent) told) (end_mark c.args.axis c.args.y c.args.row.now c.args.row.now.fate)
    (behind _ _ _ (join (join line before) sent) told
    (behind _ _ _ (join line before) sent
    (behind _ _ _ line before c.in_ok-add_asked_line.ensures c.in_ok-add_before.ensures)
    c.in_ok-add_sent_mark.ensures) c.in_ok-add_told_mark.ensures) c.in_ok-add_end_mark.ensures
