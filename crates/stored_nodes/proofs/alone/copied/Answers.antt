use Rattle.std.proofs.lemmas.Result.{IfOk-weaker}
use Rattle.stored_nodes.proofs.alone.copied.Goals as goal

pub returns-in-Ok-clause-copied : goal.returns-in-Ok-clause-copied
returns-in-Ok-clause-copied g c =
    IfOk-weaker c.reopened.result _ _ (λ again found clean. record { last = c.in-Ok.files; copied = c.in-Ok.ensures.copied (found clean).honest; found = found clean }) c.reopened.ensures.found
