use Rattle.map_stats.proofs.Rowing.{HasRows}
use Rattle.map_stats.proofs.rows.rows_of.Given as goal

abbrev pub invariant-loop-lease : goal.invariant-loop-lease
invariant-loop-lease l = HasRows l.sums.entries l.lease-iterator l.rows.items
