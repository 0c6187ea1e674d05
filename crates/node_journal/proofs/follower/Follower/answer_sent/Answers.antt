use Rattle.std.proofs.lemmas.Result.{IfOk-weaker}
use Rattle.node_journal.proofs.follower.Follower.answer_sent.Goals as goal

pub returns-in-Left : goal.returns-in-Left
returns-in-Left c = IfOk-weaker c.leave.result _ _ (λ step steps sent comes. steps sent) c.leave.ensures
