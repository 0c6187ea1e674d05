use Rattle.xml_text.proofs.Callers.{each_more}
use Rattle.map_picture.specs.Pictures.{channel_at}
use Rattle.map_picture.proofs.drawn.add_channels.Goals as goal

pub loop-k-preserved : goal.loop-k-preserved
loop-k-preserved c = each_more c.loop-k.k (channel_at c.args.all.now) _ _ _ c.loop-k.invariant c.in_ok-add_channel_at.ensures
