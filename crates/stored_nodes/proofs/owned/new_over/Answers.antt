use Rattle.std.proofs.Common.{true}
use Rattle.std.proofs.lemmas.Result.{IfOk-weaker}
use Rattle.stored_nodes.proofs.Started.{begins_nothing}
use Rattle.stored_nodes.proofs.owned.new_over.Goals as goal

pub returns-clause-begins : goal.returns-clause-begins
returns-clause-begins g c =
    begins_nothing _ _ _ (g.F.OpensRecords.begins c.args.files (record { node = c.args.id; members = c.args.members }) true) c.begun_with.result c.in_ok-records.ensures.found c.begun_with.ensures.empty c.begun_with.ensures.honest

pub returns-clause-lost : goal.returns-clause-lost
returns-clause-lost g c loss lost = IfOk-weaker c.begun_with.result _ _ (λ node trusts honest. c.in_ok-records.ensures.lost loss lost (trusts honest)) c.begun_with.ensures.honest
