use Rattle.std.proofs.Common.{take}
use Rattle.stored_hosts.specs.Surveying.{AreRead}
use Rattle.stored_hosts.proofs.surveying.states_of.Given as goal

abbrev pub invariant-loop-file : goal.invariant-loop-file
invariant-loop-file g l = AreRead g.F.Folder.holds g.F.Folder.unread l.folder (take l.file-index l.files) l.states.items
