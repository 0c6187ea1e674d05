use Rattle.std.proofs.lemmas.Result.{IfOk-weaker}
use Rattle.node_journal.proofs.follower.Follower.answer.Goals as goal

pub returns-then-may : goal.returns-then-may
returns-then-may c = IfOk-weaker c.answer_sent.result _ _ (λ step steps. steps c.args.sent.now (c.in_ok-may.ensures c.if-may.true)) c.answer_sent.ensures
