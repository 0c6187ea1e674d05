use Rattle.std.proofs.lemmas.Result.{IfOk-weaker}
use Rattle.node_journal.proofs.follower.Follower.live.Goals as goal

pub returns-then-begins_life : goal.returns-then-begins_life
returns-then-begins_life c = IfOk-weaker c.stop.result _ _ (λ step steps. steps c.args.sent.now) c.stop.ensures

pub returns-in_default : goal.returns-in_default
returns-in_default c = IfOk-weaker c.stop-in_default.result _ _ (λ step steps. steps c.args.sent.now) c.stop-in_default.ensures

pub returns-then-goes_on_with_life : goal.returns-then-goes_on_with_life
returns-then-goes_on_with_life c = IfOk-weaker c.stop-then-goes_on_with_life.result _ _ (λ step steps. steps c.args.sent.now) c.stop-then-goes_on_with_life.ensures
