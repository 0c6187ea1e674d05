use Rattle.json_stats.specs.Flows.{flow_data}
use Rattle.upsched_check.proofs.Valued.{none_printed, items_valued}
use Rattle.upsched_check.proofs.json_lines.print_flows.Goals as goal

pub loop-row-init : goal.loop-row-init
loop-row-init g c = none_printed (g.O.Write.contents c.args.output.now)

pub loop-row-preserved : goal.loop-row-preserved
loop-row-preserved g c =
    items_valued flow_data c.args.rows.now c.loop-row.row-index _ _ _ _ c.loop-row-test.true c.loop-row.invariant c.in_ok-print_flow.ensures
