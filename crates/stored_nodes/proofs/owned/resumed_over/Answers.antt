use Rattle.std.proofs.lemmas.Result.{IfOk-weaker}
use Rattle.stored_nodes.proofs.owned.resumed_over.Goals as goal

pub returns-clause-resumed : goal.returns-clause-resumed
returns-clause-resumed g c =
    IfOk-weaker c.resumed_with.result _ _ (λ node goes_on honest. let now = goes_on honest in let held = c.in_ok-records.ensures.found now.0 in (held.0, held.2, now.1 held.0 held.1)) c.resumed_with.ensures.resumed

pub returns-clause-lost : goal.returns-clause-lost
returns-clause-lost g c loss lost = IfOk-weaker c.resumed_with.result _ _ (λ node goes_on honest. c.in_ok-records.ensures.lost loss lost (goes_on honest).0) c.resumed_with.ensures.resumed
