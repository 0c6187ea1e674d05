use Rattle.node.proofs.Told.{tells_up}
use Rattle.node.proofs.sched.SchedNodeNode.tell.Goals as goal

pub returns-clause-done : goal.returns-clause-done
returns-clause-done g c = tells_up g.R.Records.may_find c.args.self.now.parts c.args.to c.args.place c.if-self.false c.told.result c.told.ensures.tells c.told.ensures.letters
