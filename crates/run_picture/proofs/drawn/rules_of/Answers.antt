use Rattle.std.proofs.Common.{length}
use Rattle.xml_text.specs.Each.{each}
use Rattle.run_picture.specs.declared.scene.Part.TheVariants.{Rule}
use Rattle.run_picture.specs.Pictures.{chosen_at, of_events}
use Rattle.run_picture.proofs.Rendered.{begun, behind}
use Rattle.run_picture.proofs.drawn.rules_of.Goals as goal

pub returns : goal.returns
returns c =
    behind _ _ (of_events c.args.scene.now Rule) (each (length c.args.scene.now.letters.now) (chosen_at c.args.scene.now))
    (begun _ _ (of_events c.args.scene.now Rule) c.new-out.ensures.bytes c.in_ok-add_part.ensures) c.in_ok-add_choices.ensures
