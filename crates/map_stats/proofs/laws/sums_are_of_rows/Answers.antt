use Rattle.map_stats.proofs.Summing.{sums_are_of_rows}
use Rattle.map_stats.proofs.laws.sums_are_of_rows.Goals as goal

pub returns : goal.returns
returns c = sums_are_of_rows
