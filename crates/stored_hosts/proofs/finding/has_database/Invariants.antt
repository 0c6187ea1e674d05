use Rattle.std.proofs.Common.{take, ◌+◌}
use Rattle.std.specs.Prelude.{Contains}
use Rattle.stored_hosts.specs.Committing.{file_of}
use Rattle.stored_hosts.specs.declared.names.FileKind.TheVariants.{Database}
use Rattle.stored_hosts.proofs.finding.has_database.Given as goal

abbrev pub invariant-loop-file : goal.invariant-loop-file
invariant-loop-file l = ¬ Contains (take l.file-index l.files) (file_of (l.epoch + l.behind) Database)
