use Rattle.std.proofs.Common.{refl}
use Rattle.modem.proofs.modem.Modem.contention_at.Goals as goal

pub is_open_in-requires : goal.is_open_in-requires
is_open_in-requires c = rw c.as_slice.ensures.value ((rw (← c.self.view_is) at c.requires).«open» c.self.inside.open_to_all.items refl)
