use Rattle.std.proofs.Common.{[]}
use Rattle.std.proofs.KnownBytes.{Appends-nil}
use Rattle.upsched_maps.specs.Refusals.{refusal_line}
use Rattle.upsched_maps.proofs.Printed.{one_more, all_of}
use Rattle.upsched_maps.proofs.refusals.print_refusals.Goals as goal

pub loop-i-init : goal.loop-i-init
loop-i-init g c = (c.new-machine.ensures, Appends-nil (g.O.Write.contents c.args.output.now))

pub loop-i-preserved : goal.loop-i-preserved
loop-i-preserved g c =
    let before = c.loop-i.invariant in
    one_more (refusal_line c.args.path.now) [] c.args.commands.now c.loop-i.i _ _ _ _ _ _ c.loop-i-test.true before.0 before.1 c.in-Ok.ensures.rows
    (rw c.in-Ok.ensures.text at c.in_ok-print_line.ensures.printed)

pub returns-clause-printed : goal.returns-clause-printed
returns-clause-printed g c =
    all_of (refusal_line c.args.path.now) [] c.args.commands.now c.loop-i.i _ _ c.loop-i-test.false c.loop-i.invariant.1
