use Rattle.std.proofs.Common.{take}
use Rattle.stored_hosts.specs.Acts.{AreDone}
use Rattle.stored_hosts.specs.Leaving.{removals_of}
use Rattle.stored_hosts.proofs.leaving.remove_layer.Given as goal

abbrev pub invariant-loop-file : goal.invariant-loop-file
invariant-loop-file g l = AreDone g.F.Folder.does l.initial.folder (removals_of l.layer l.counts (take l.file-index l.files)) l.folder
