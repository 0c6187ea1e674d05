use Rattle.xml_text.proofs.Callers.{each_more}
use Rattle.run_picture.specs.Pictures.{lane_name}
use Rattle.run_picture.proofs.drawn.add_names.Goals as goal

pub loop-k-preserved : goal.loop-k-preserved
loop-k-preserved c = each_more c.loop-k.k (lane_name c.args.scene.now) _ _ _ c.loop-k.invariant c.in_ok-add_lane_name.ensures
