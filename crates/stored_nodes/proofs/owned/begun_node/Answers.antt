use Rattle.std.proofs.Common.{inl, refl}
use Rattle.std.proofs.lemmas.Result.{IfOk-weaker}
use Rattle.stored_nodes.proofs.owned.begun_node.Goals as goal

pub returns-clause-alone : goal.returns-clause-alone
returns-clause-alone g c = IfOk-weaker c.new_over.result _ _ (λ node begins honest. (begins honest).alone (inl refl)) c.new_over.ensures.begins

pub returns-clause-blank : goal.returns-clause-blank
returns-clause-blank g c = IfOk-weaker c.new_over.result _ _ (λ node begins honest. (begins honest).blank refl) c.new_over.ensures.begins
