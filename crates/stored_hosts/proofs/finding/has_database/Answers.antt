use Rattle.std.proofs.Common.{rules, ◌+◌}
use Rattle.stored_hosts.specs.Committing.{file_of}
use Rattle.stored_hosts.specs.declared.names.FileKind.TheVariants.{Database}
use Rattle.stored_hosts.proofs.Listed.{has_here, has_none, none_yet}
use Rattle.stored_hosts.proofs.finding.has_database.Goals as goal

pub loop-file-preserved : goal.loop-file-preserved
loop-file-preserved c =
    none_yet c.args.files.now c.loop-file.file-index _ (file_of (c.args.epoch + c.args.behind) Database) c.is_database.result c.is_database.ensures c.loop-file-test.true c.if-is_database.false c.loop-file.invariant

pub returns-then-is_database : goal.returns-then-is_database
returns-then-is_database c =
    has_here c.args.files.now c.loop-file.file-index _ (file_of (c.args.epoch + c.args.behind) Database) c.is_database.result c.is_database.ensures c.loop-file-test.true c.if-is_database.true

pub returns : goal.returns
returns c = has_none c.args.files.now c.loop-file.file-index (file_of (c.args.epoch + c.args.behind) Database) (search rules) c.loop-file.invariant
