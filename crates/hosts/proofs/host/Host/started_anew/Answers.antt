use Rattle.std.proofs.lemmas.Result.{IfOk-weaker}
use Rattle.hosts.proofs.host.Host.started_anew.Goals as goal

pub returns-in-Ok-clause-over : goal.returns-in-Ok-clause-over
returns-in-Ok-clause-over g c =
    IfOk-weaker c.with_own.result _ _ (λ new stores. (c.in-Ok.host, c.in-Ok.ensures.over, stores)) c.with_own.ensures.stores
