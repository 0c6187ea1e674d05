use Rattle.xml_text.proofs.Callers.{each_more}
use Rattle.map_picture.specs.Pictures.{frame_at}
use Rattle.map_picture.proofs.rows.add_frames.Goals as goal

pub loop-k-preserved : goal.loop-k-preserved
loop-k-preserved c = each_more c.loop-k.k (frame_at c.args.channel.now c.args.down.0 c.args.down.1) _ _ _ c.loop-k.invariant c.in_ok-add_frame_at.ensures
