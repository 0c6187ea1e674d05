use Rattle.std.proofs.Common.{arith}
use Rattle.script_counts.proofs.Reading.{crash_all}
use Rattle.script_counts.proofs.counts.crashes.Goals as goal

pub returns : goal.returns
returns c =
    crash_all c.args.events.now c.args.answers.now c.answered-i-end.result c.loop-i.i c.loop-i.count _ (omega arith) c.answered-i-end.ensures.all c.loop-i.invariant.0
