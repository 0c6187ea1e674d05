use Rattle.std.proofs.Common.{◌+◌, take, ap}
use Rattle.map_body.proofs.body.MapBody.up_to_null.Goals as goal

pub returns-clause-null : goal.returns-clause-null
returns-clause-null c =
    (c.self.inside.null, rw (← c.self.view_is) c.self.invariant.2, rw (← c.self.view_is) (ap (λ xs. take (c.self.inside.null + 1) xs) c.deref.ensures.value))
