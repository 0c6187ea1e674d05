use Rattle.std.proofs.Common.{refl}
use Rattle.upsched_maps.proofs.Printed.{line_of_output, one_more, all_outputs, all_rows}
use Rattle.std.proofs.KnownBytes.{Appends-nil}
use Rattle.upsched_maps.proofs.plan_run.print_outputs.Goals as goal

pub loop-i-init : goal.loop-i-init
loop-i-init g c = (refl, Appends-nil (g.O.Write.contents c.args.output.now))

pub loop-i-preserved : goal.loop-i-preserved
loop-i-preserved g c =
    let before = c.loop-i.invariant in
    one_more line_of_output c.args.machine.now c.args.commands.now c.loop-i.i _ _ _ _ _ _ c.loop-i-test.true before.0 before.1
    c.in_ok-print_output.ensures.rows c.in_ok-print_output.ensures.printed

pub returns-clause-rows : goal.returns-clause-rows
returns-clause-rows g c = all_rows c.args.machine.now _ c.args.commands.now c.loop-i.i c.loop-i-test.false c.loop-i.invariant.0

pub returns-clause-printed : goal.returns-clause-printed
returns-clause-printed g c = all_outputs c.args.machine.now c.args.commands.now c.loop-i.i _ _ _ c.loop-i-test.false c.loop-i.invariant.1 c.in_ok-flush.ensures.bytes
