use Rattle.xml_text.proofs.Callers.{each_more}
use Rattle.map_picture.specs.Scales.{tick_at}
use Rattle.map_picture.proofs.scales.add_ticks.Goals as goal

pub loop-k-preserved : goal.loop-k-preserved
loop-k-preserved c = each_more c.loop-k.k (tick_at c.args.strip.now c.args.numbers.now) _ _ _ c.loop-k.invariant c.in_ok-add_tick_at.ensures
