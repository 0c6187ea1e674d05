use Rattle.xml_text.proofs.Callers.{each_more}
use Rattle.run_picture.specs.Pictures.{node_bands}
use Rattle.run_picture.proofs.drawn.add_all_bands.Goals as goal

pub loop-k-preserved : goal.loop-k-preserved
loop-k-preserved c = each_more c.loop-k.k (node_bands c.args.scene.now c.args.bottom) _ _ _ c.loop-k.invariant c.in_ok-add_bands.ensures
