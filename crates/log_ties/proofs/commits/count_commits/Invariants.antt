use Rattle.std.proofs.Common.{◌≡◌, ◌≤◌}
use Rattle.log_ties.specs.Ties.{commits_to}
use Rattle.sqlite_wal.specs.Reads.{IsClean, OnlyReads}
use Rattle.log_ties.proofs.commits.count_commits.Given as goal

abbrev pub invariant-loop-i : goal.invariant-loop-i
invariant-loop-i g l =
    (l.count ≤ l.i)
    × OnlyReads g.D.Disk l.fn.log l.log
    × (g.D.Disk.faults l.log ≡ g.D.Disk.faults l.fn.log)
    × (IsClean g.D.Disk l.log → l.count ≡ commits_to l.shape.page_size (g.D.Disk.seen l.fn.log) l.i)
