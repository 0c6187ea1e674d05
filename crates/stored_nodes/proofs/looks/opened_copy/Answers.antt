use Rattle.std.proofs.Common.{◌∙◌, ap}
use Rattle.sqlite_wal.specs.Reads.{tally_of_files}
use Rattle.stored_nodes.proofs.Copied.{always_clean, clean_left, read_by, refused_so}
use Rattle.stored_nodes.proofs.looks.opened_copy.Goals as goal

pub returns-in-Ok-clause-opened : goal.returns-in-Ok-clause-opened
returns-in-Ok-clause-opened g c never = c.in-Ok.ensures.opened (always_clean {g = g.D.Disk} never c.in-Ok.conn.store)

pub returns-in-Ok-clause-read : goal.returns-in-Ok-clause-read
returns-in-Ok-clause-read g c never =
    let clean = always_clean {g = g.D.Disk} never c.in-Ok.conn.store in
    read_by {g = g.D.Disk} c.args.files c.in-Ok.conn (c.in-Ok.ensures.opened clean) (c.in-Ok.ensures.found clean)

pub returns-in-Err-clause-unread : goal.returns-in-Err-clause-unread
returns-in-Err-clause-unread g c never =
    let there = c.tally.ensures ∙ ap (tally_of_files g.D.Disk) c.into_files.ensures in
    let failed = c.in-Err.ensures.cause (clean_left {g = g.D.Disk} never c.in-Err.left) in
    refused_so {g = g.D.Disk} c.args.files c.in-Err.left c.in-Err.error c.tally-before.result c.tally.result c.unread.result c.tally-before.ensures there failed c.unread.ensures
