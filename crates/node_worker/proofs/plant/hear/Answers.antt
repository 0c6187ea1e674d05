use Rattle.std.proofs.Common.{arith, subst, sym, Option, slice_get, inr}
use Rattle.std.proofs.lemmas.Option.{slice_get_within}
use Rattle.grant_machine.specs.declared.output.Output.{Output}
use Rattle.seats.specs.declared.answer.ReleasedOutput.{ReleasedOutput}
use Rattle.seats.specs.Modems.{Listens, HearsOutput}
use Rattle.seats.proofs.Callers.{one_does, one_stays, none_does, hears_none}
use Rattle.node_worker.specs.Legal.{outputs_of}
use Rattle.node_worker.proofs.plant.hear.Goals as goal

pub returns-then-len-m-clause-next : goal.returns-then-len-m-clause-next
returns-then-len-m-clause-next c = λ rs hold. none_does (λ r. Listens r (slice_get (outputs_of c.args.records.now) c.args.i) c.args.near) c.args.modems.now.items rs c.args.m hold (omega arith)

pub returns-in_default-clause-next : goal.returns-in_default-clause-next
returns-in_default-clause-next c = λ rs hold. one_stays (λ r. Listens r (slice_get (outputs_of c.args.records.now) c.args.i) c.args.near) _ c.args.modems.now.items rs c.args.m hold (omega arith) (λ r. hears_none (outputs_of c.args.records.now) c.args.i c.args.near r c.in_default.ensures.found)

pub returns-clause-next : goal.returns-clause-next
returns-clause-next c = λ rs hold.
    let at = c.in-Some.ensures.found in
    one_does (λ r. Listens r (slice_get (outputs_of c.args.records.now) c.args.i) c.args.near) c.hear_near.result c.args.modems.now.items rs c.args.m c.index_mut-modem.result.now c.hear_near.new.modem hold (omega arith) c.index_mut-modem.ensures.value
    (λ r is.
    let one = c.hear_near.ensures.hears r is in
    let P : Option ReleasedOutput → Type 0 = λ o. Listens r o c.args.near c.hear_near.result one.0 in
    let Q : Output → Type 0 = λ o. HearsOutput r o c.args.near c.hear_near.result one.0 in
    (one.0, subst P (sym at.1) (subst Q (sym at.2) one.1), one.2))

pub returns-clause-within : goal.returns-clause-within
returns-clause-within c = inr (slice_get_within (outputs_of c.args.records.now) c.args.i c.in-Some.ensures.found.0 c.in-Some.ensures.found.1)
