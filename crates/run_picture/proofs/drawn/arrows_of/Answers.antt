use Rattle.std.proofs.Common.{length}
use Rattle.xml_text.specs.Xml.{join}
use Rattle.xml_text.specs.Each.{each}
use Rattle.run_picture.specs.declared.scene.Part.TheVariants.{Arrow, Hearing}
use Rattle.run_picture.specs.Parts.{stub_at}
use Rattle.run_picture.specs.Pictures.{of_events}
use Rattle.run_picture.proofs.Rendered.{begun, behind}
use Rattle.run_picture.proofs.drawn.arrows_of.Goals as goal

pub returns : goal.returns
returns c =
    behind _ _ (join (of_events c.args.scene.now Arrow) (of_events c.args.scene.now Hearing)) (each (length c.args.scene.now.letters.now) (stub_at c.args.scene.now))
    (behind _ _ (of_events c.args.scene.now Arrow) (of_events c.args.scene.now Hearing)
    (begun _ _ (of_events c.args.scene.now Arrow) c.new-out.ensures.bytes c.in_ok-add_part.ensures) c.in_ok-add_part-2.ensures)
    c.in_ok-add_stubs.ensures
