use Rattle.std.proofs.Common.{take}
use Rattle.stored_hosts.specs.Finding.{IsBest}
use Rattle.stored_hosts.proofs.finding.best_of.Given as goal

abbrev pub invariant-loop-file : goal.invariant-loop-file
invariant-loop-file l = IsBest (take l.file-index l.files) l.best
