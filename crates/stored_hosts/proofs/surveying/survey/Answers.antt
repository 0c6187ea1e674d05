use Rattle.stored_hosts.proofs.Finds.{surveyed}
use Rattle.stored_hosts.proofs.surveying.survey.Goals as goal

pub returns : goal.returns
returns g c =
    surveyed g.F.Folder.holds g.F.Folder.unread g.F.Folder.lists c.args.which c.args.folder.now c.in_ok-files.files.items c.in_ok-states.states.items c.in_ok-files.ensures.lists
    (rw c.as_slice.ensures.value at c.in_ok-states.ensures.read) c.find.result (rw (c.as_slice-2.ensures.value, c.as_slice-3.ensures.value) at c.find.ensures)
