use Rattle.xml_text.proofs.Callers.{each_more}
use Rattle.map_picture.specs.Owners.{grants_at}
use Rattle.map_picture.proofs.owners.add_grants.Goals as goal

pub loop-i-preserved : goal.loop-i-preserved
loop-i-preserved c = each_more c.loop-i.i (grants_at c.args.deeds.now c.args.owner.now) _ _ _ c.loop-i.invariant c.in_ok-add_grants_at.ensures
