use Rattle.std.proofs.Common.{[]}
use Rattle.std.proofs.KnownBytes.{Appends-nil}
use Rattle.upsched_maps.specs.Refusals.{named_line}
use Rattle.upsched_maps.proofs.Printed.{one_more, all_lines}
use Rattle.upsched_maps.proofs.refusals.print_all_named.Goals as goal

pub loop-i-init : goal.loop-i-init
loop-i-init g c = (c.new-machine.ensures, Appends-nil (g.O.Write.contents c.args.output.now))

pub loop-i-preserved : goal.loop-i-preserved
loop-i-preserved g c =
    let before = c.loop-i.invariant in
    one_more named_line [] c.args.commands.now c.loop-i.i _ _ _ _ _ _ c.loop-i-test.true before.0 before.1 c.in_ok-print_named.ensures.rows c.in_ok-print_named.ensures.printed

pub returns : goal.returns
returns g c = all_lines named_line [] c.args.commands.now c.loop-i.i _ _ _ c.loop-i-test.false c.loop-i.invariant.1 c.in_ok-flush.ensures.bytes
