use Rattle.plan_account.proofs.Faulting.{given_of}
use Rattle.plan_account.proofs.deed.deed_of.Goals as goal

pub returns : goal.returns
returns c = record {
  deed = c.deed_told.ensures.deed;
  fault = c.deed_told.ensures.fault;
  given = λ deed is. given_of c.args.command.now c.args.output.now deed c.deed_told.result is c.deed_told.ensures.fault;
}
