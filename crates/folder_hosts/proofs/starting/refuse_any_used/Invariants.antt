use Rattle.std.proofs.Common.{take}
use Rattle.folder_hosts.specs.Starting.{AreUnused}
use Rattle.folder_hosts.proofs.starting.refuse_any_used.Given as goal

abbrev pub invariant-loop-file : goal.invariant-loop-file
invariant-loop-file g l = AreUnused g.D.Databases.tells l.databases (take l.file-index l.files)
