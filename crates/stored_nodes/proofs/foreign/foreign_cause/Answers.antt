use Rattle.std.proofs.Common.{refl, subst}
use Rattle.stored_nodes.specs.Causes.{IsCauseIn}
use Rattle.stored_nodes.proofs.foreign.foreign_cause.Goals as goal

pub returns-in-Ok-clause-as_open : goal.returns-in-Ok-clause-as_open
returns-in-Ok-clause-as_open g c clean = subst (λ i. IsCauseIn i c.in-Ok.cause) (c.in_ok-copy.ensures.same clean) (c.in-Ok.ensures (λ log db. refl))
