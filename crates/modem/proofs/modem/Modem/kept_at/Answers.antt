use Rattle.std.proofs.Common.{refl}
use Rattle.modem.proofs.modem.Modem.kept_at.Goals as goal

pub covering-requires : goal.covering-requires
covering-requires c = rw c.as_slice-grants.ensures.value ((rw (← c.self.view_is) at c.requires).own c.self.inside.grants.items refl)
