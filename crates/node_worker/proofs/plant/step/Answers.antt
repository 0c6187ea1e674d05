use Rattle.std.proofs.Common.{rules}
use Rattle.node_worker.proofs.plant.step.Goals as goal

pub returns-in-Ok-clause-worked : goal.returns-in-Ok-clause-worked
returns-in-Ok-clause-worked g c =
    let done = c.in-Ok.ensures.done in (
      c.in-Ok.done,
      record { node = done.0; asked = done.1; kept = done.2; step = c.in-Ok.ensures.step; rose = c.in-Ok.ensures.rose },
      search rules,
    )
