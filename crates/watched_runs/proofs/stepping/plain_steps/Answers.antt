use Rattle.watched_runs.proofs.Followed.{plains}
use Rattle.watched_runs.proofs.stepping.plain_steps.Goals as goal

pub returns : goal.returns
returns c = plains
