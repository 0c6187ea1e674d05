use Rattle.std.proofs.Common.{◌≤◌, ◌+◌, length, arith}
use Rattle.ballots.specs.Limits.{most_places}
use Rattle.command_log.specs.Values.{gapless}
use Rattle.command_log.proofs.Rows.{values_fit}
use Rattle.command_log.proofs.log.Log.prefix_len.Goals as goal

pub returns-clause-within : goal.returns-clause-within
returns-clause-within c =
    let fit : length (gapless c.self.inside.learned.entries) + 1 ≤ most_places + 1 = values_fit 1 c.self.inside.learned.entries c.self.invariant.log.rows (omega arith) in
    omega (arith, c.self.invariant.log.gapless)
