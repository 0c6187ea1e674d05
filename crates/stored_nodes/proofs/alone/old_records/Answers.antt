use Rattle.stored_nodes.proofs.Copying.{old_alone, was_clean}
use Rattle.stored_nodes.proofs.alone.old_records.Goals as goal

pub returns-clause-holds : goal.returns-clause-holds
returns-clause-holds g c =
    old_alone {g = g.D.Disk} c.args.owner c.args.tie c.args.conn c.in_ok-again.again c.opened_as.result (c.in_ok-again.ensures.same, c.in_ok-again.ensures.copied) c.opened_as.ensures.holds c.opened_as.ensures.clean

pub returns-clause-clean : goal.returns-clause-clean
returns-clause-clean g c = was_clean {g = g.D.Disk} c.args.tie c.args.conn c.in_ok-again.again c.opened_as.result (c.in_ok-again.ensures.same, c.in_ok-again.ensures.copied) c.opened_as.ensures.clean
