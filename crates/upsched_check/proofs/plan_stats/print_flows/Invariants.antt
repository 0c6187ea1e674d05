use Rattle.std.proofs.Common.{take}
use Rattle.std.specs.List.{flat_map}
use Rattle.std.specs.Io.KnownBytes.{Appends}
use Rattle.map_stats.specs.FlowTexts.{flow_lines}
use Rattle.upsched_check.proofs.plan_stats.print_flows.Given as goal

abbrev pub invariant-loop-row : goal.invariant-loop-row
invariant-loop-row g l = Appends (g.O.Write.contents l.initial.output) (g.O.Write.contents l.output) (flat_map flow_lines (take l.row-index l.rows))
