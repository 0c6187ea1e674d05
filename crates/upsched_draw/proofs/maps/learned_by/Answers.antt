use Rattle.std.proofs.Common.{refl}
use Rattle.upsched_draw.proofs.maps.learned_by.Goals as goal

-- records in memory are always honest
pub returns-in-Ok : goal.returns-in-Ok
returns-in-Ok g = g.in-Ok.ensures (λ k d below. refl)
