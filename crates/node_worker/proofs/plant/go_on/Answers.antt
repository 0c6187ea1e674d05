use Rattle.node_worker.specs.Legal.{outputs_of}
use Rattle.node_worker.proofs.plant.go_on.Goals as goal

pub returns-in-Want-clause-next : goal.returns-in-Want-clause-next
returns-in-Want-clause-next c = rw c.in-Want.is (λ rs hold. c.want.ensures.next rs (outputs_of c.args.records.now) hold)

pub returns-in-Tick-clause-next : goal.returns-in-Tick-clause-next
returns-in-Tick-clause-next c = rw c.in-Tick.is (λ rs hold. c.tick.ensures.next rs (outputs_of c.args.records.now) hold)
