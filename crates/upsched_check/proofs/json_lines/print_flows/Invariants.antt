use Rattle.std.proofs.Common.{take}
use Rattle.std.specs.List.{flat_map}
use Rattle.json_stats.specs.Flows.{flow_data}
use Rattle.upsched_check.specs.StatsAsJson.{PrintsValues}
use Rattle.upsched_check.proofs.json_lines.print_flows.Given as goal

abbrev pub invariant-loop-row : goal.invariant-loop-row
invariant-loop-row g l = PrintsValues (flat_map flow_data (take l.row-index l.rows)) (g.O.Write.contents l.initial.output) (g.O.Write.contents l.output)
