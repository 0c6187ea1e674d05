use Rattle.std.proofs.lemmas.Result.{IfOk-weaker}
use Rattle.node_journal.proofs.follower.Follower.take_line.Goals as goal

pub returns-in-Refused : goal.returns-in-Refused
returns-in-Refused c = IfOk-weaker c.refuse.result _ _ (λ step steps. steps c.args.sent.now) c.refuse.ensures
