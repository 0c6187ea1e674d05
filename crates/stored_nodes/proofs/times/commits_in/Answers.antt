use Rattle.std.proofs.Common.{arith}
use Rattle.stored_nodes.proofs.Timed.{none_at, none_but}
use Rattle.stored_nodes.proofs.times.commits_in.Goals as goal

pub returns-in-Ok-Some-clause-none : goal.returns-in-Ok-Some-clause-none
returns-in-Ok-Some-clause-none g c clean none n has =
    none_but (g.D.Disk.seen c.args.log.now) c.in-Ok-Some.field-0 c.in-Ok-Some.count n c.in-Ok-Some.field-0-is (omega (arith, c.some_above.ensures.none none)) (c.in-Ok-Some.ensures.counted clean) has

pub returns-in-Ok-None-clause-none : goal.returns-in-Ok-None-clause-none
returns-in-Ok-None-clause-none g c clean none n has =
    none_at (g.D.Disk.seen c.args.log.now) c.in-Ok-None.field-0 n c.in-Ok-None.field-0-is (c.in-Ok-None.ensures.counted clean) has
