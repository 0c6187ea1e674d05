use Rattle.std.proofs.Common.{rules, arith, ◌≡◌, length, sym}
use Rattle.sqlite_wal.proofs.PartLemmas.{held_is_part}
use Rattle.log_ties.proofs.tie.read_head.Goals as goal

pub returns-clause-head : goal.returns-clause-head
returns-clause-head g c clean =
    let log = g.D.Disk.seen c.args.log.now in
    let len : length c.read_at.new.buf ≡ 32 = search rules in
    sym (held_is_part log _ 0 32 (c.in_ok-read_at.ensures.read clean (omega arith)) len)
