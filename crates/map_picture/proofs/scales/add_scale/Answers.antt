use Rattle.xml_text.proofs.Callers.{each_more}
use Rattle.map_picture.specs.Scales.{number_at}
use Rattle.map_picture.proofs.scales.add_scale.Goals as goal

pub loop-k-preserved : goal.loop-k-preserved
loop-k-preserved c = each_more c.loop-k.k (number_at c.args.axis c.args.y c.args.numbers.now) _ _ _ c.loop-k.invariant c.in_ok-add_number_at.ensures
