use Rattle.upsched_json.proofs.Printed.{no_lines, one_more, all_lines}
use Rattle.upsched_json.proofs.plan_run.print_outputs.Goals as goal

pub loop-i-init : goal.loop-i-init
loop-i-init g c = (c.new-machine.ensures, no_lines (g.O.Write.contents c.args.output.now))

pub loop-i-preserved : goal.loop-i-preserved
loop-i-preserved g c =
    let before = c.loop-i.invariant in
    one_more c.args.commands.now c.loop-i.i _ _ _ _ _ _ c.loop-i-test.true before.0 before.1 c.in_ok-print_output.ensures.rows c.in_ok-print_output.ensures.printed

pub returns : goal.returns
returns g c = all_lines c.args.commands.now c.loop-i.i _ _ _ c.loop-i-test.false c.loop-i.invariant.1 c.in_ok-flush.ensures.bytes
