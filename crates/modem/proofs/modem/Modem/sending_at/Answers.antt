use Rattle.std.proofs.Common.{refl}
use Rattle.modem.proofs.modem.Modem.sending_at.Goals as goal

pub counted_in-requires : goal.counted_in-requires
counted_in-requires c = rw c.as_slice.ensures.value ((rw (← c.self.view_is) at c.requires).own c.self.inside.grants.items refl)
