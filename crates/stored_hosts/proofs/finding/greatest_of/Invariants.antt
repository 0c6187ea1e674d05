use Rattle.std.proofs.Common.{take}
use Rattle.stored_hosts.proofs.Greatest.{IsGreatestOf}
use Rattle.stored_hosts.proofs.finding.greatest_of.Given as goal

abbrev pub invariant-loop-file : goal.invariant-loop-file
invariant-loop-file l = IsGreatestOf (take l.file-index l.files) l.greatest
