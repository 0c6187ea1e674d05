use Rattle.xml_text.proofs.Callers.{each_more}
use Rattle.run_picture.specs.Pictures.{lane_line}
use Rattle.run_picture.proofs.drawn.add_lanes.Goals as goal

pub loop-k-preserved : goal.loop-k-preserved
loop-k-preserved c = each_more c.loop-k.k (lane_line c.args.scene.now c.args.bottom) _ _ _ c.loop-k.invariant c.in_ok-add_lane_line.ensures
