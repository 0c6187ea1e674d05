use Rattle.watched_runs.proofs.Followed.{runs}
use Rattle.watched_runs.proofs.stepping.step_runs.Goals as goal

pub returns : goal.returns
returns c = runs
