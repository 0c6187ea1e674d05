use Rattle.ballots.specs.declared.members.Members.TheVariants.{Five}
use Rattle.stored_nodes.proofs.Looked.{told_again}
use Rattle.stored_nodes.proofs.states.told_whole.Goals as goal

pub returns-in-Some-clause-so : goal.returns-in-Some-clause-so
returns-in-Some-clause-so g c clean =
    told_again g.D.Disk c.args.files.now c.told_by_copy-told.new.files c.told_by_copy.new.files c.args.id Five c.in-Some.members c.told_by_copy-told.result c.told_by_copy.result c.told_by_copy-told.ensures.files c.told_by_copy.ensures.files
    c.told_by_copy-told.ensures.counts c.in-Some.ensures.some.0 c.told_by_copy-told.ensures.seen c.told_by_copy.ensures.seen clean
