use Rattle.std.proofs.lemmas.Result.{IfOk-weaker}
use Rattle.node_journal.proofs.follower.Follower.step.Goals as goal

pub returns-in-Unborn : goal.returns-in-Unborn
returns-in-Unborn c = IfOk-weaker c.begin.result _ _ (λ step steps. steps c.args.sent.now) c.begin.ensures

pub returns-in-Cut : goal.returns-in-Cut
returns-in-Cut c = IfOk-weaker c.end.result _ _ (λ step steps. steps c.args.sent.now) c.end.ensures

pub returns-in-Down : goal.returns-in-Down
returns-in-Down c = IfOk-weaker c.start_again.result _ _ (λ step steps. steps c.args.sent.now) c.start_again.ensures
