use Rattle.std.proofs.Common.{arith}
use Rattle.watched_runs.proofs.Stages.{clipped}
use Rattle.watched_runs.proofs.watched.Watched.rows_of.Goals as goal

pub returns-clause-same : goal.returns-clause-same
returns-clause-same c = clipped c.args.self.now.rows c.args.stage.now.from c.args.stage.now.to _ _ _ c.len.ensures c.min-to.ensures c.min.ensures
