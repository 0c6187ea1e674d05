use Rattle.xml_text.specs.Xml.{Xml, join}
use Rattle.xml_text.specs.Each.{each}
use Rattle.run_picture.specs.declared.scene.Part.TheVariants.{Number, Happening, Answered, Label, Told}
use Rattle.run_picture.specs.Parts.{lanes}
use Rattle.run_picture.specs.Pictures.{lane_name, of_events}
use Rattle.run_picture.proofs.Rendered.{behind}
use Rattle.run_picture.proofs.drawn.add_labels.Goals as goal

pub returns : goal.returns
returns c = λ known is_known.
    let named : Xml = join known (each (lanes c.args.scene.now) (lane_name c.args.scene.now)) in
    let numbered : Xml = join named (of_events c.args.scene.now Number) in
    let happened : Xml = join numbered (of_events c.args.scene.now Happening) in
    let answered : Xml = join happened (of_events c.args.scene.now Answered) in
    let labelled : Xml = join answered (of_events c.args.scene.now Label) in
    behind _ _ labelled (of_events c.args.scene.now Told)
    (behind _ _ answered (of_events c.args.scene.now Label)
    (behind _ _ happened (of_events c.args.scene.now Answered)
    (behind _ _ numbered (of_events c.args.scene.now Happening)
    (behind _ _ named (of_events c.args.scene.now Number)
    (behind _ _ known (each (lanes c.args.scene.now) (lane_name c.args.scene.now)) is_known c.in_ok-add_names.ensures) c.in_ok-add_part.ensures)
    c.in_ok-add_part-2.ensures) c.in_ok-add_part-3.ensures) c.in_ok-add_part-4.ensures) c.in_ok-add_part-5.ensures
