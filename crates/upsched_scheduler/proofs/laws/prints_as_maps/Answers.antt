use Rattle.upsched_scheduler.proofs.AsMaps.{printed}
use Rattle.upsched_scheduler.proofs.laws.prints_as_maps.Goals as goal

pub returns : goal.returns
returns c = printed c.one_meaning.ensures
