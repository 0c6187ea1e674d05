use Rattle.xml_text.proofs.Callers.{each_more}
use Rattle.run_picture.specs.Parts.{part_at}
use Rattle.run_picture.proofs.parts.add_part.Goals as goal

pub loop-i-preserved : goal.loop-i-preserved
loop-i-preserved c = each_more c.loop-i.i (part_at c.args.scene.now c.args.part) _ _ _ c.loop-i.invariant c.in_ok-add_part_at.ensures
