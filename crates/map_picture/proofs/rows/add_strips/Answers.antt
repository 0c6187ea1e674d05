use Rattle.xml_text.proofs.Callers.{each_more}
use Rattle.map_picture.specs.Pictures.{strip_at}
use Rattle.map_picture.proofs.rows.add_strips.Goals as goal

pub loop-k-preserved : goal.loop-k-preserved
loop-k-preserved c = each_more c.loop-k.k (strip_at c.args.channel.now c.args.top) _ _ _ c.loop-k.invariant c.in_ok-add_strip_at.ensures
