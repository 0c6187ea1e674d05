use Rattle.std.proofs.Common.{refl}
use Rattle.upsched_draw.proofs.draw.draw_plain.Goals as goal

-- records in memory are always honest
pub returns : goal.returns
returns g c = c.in_ok-_world.ensures (λ k d below. refl)
