use Rattle.std.proofs.Common.{◌≡◌, ◌-◌, ◌<◌, ◌≤◌, ℕ}
use Rattle.sqlite_wal.specs.Reads.{IsClean, OnlyReads}
use Rattle.sqlite_wal.specs.Recovery.{frame_at, sum_before}
use Rattle.log_ties.specs.Tails.{PassesQuietly}
use Rattle.log_ties.proofs.tail.uncommitted_end.Given as goal

abbrev pub invariant-loop-buf : goal.invariant-loop-buf
invariant-loop-buf g l =
    (l.at ≡ frame_at l.shape.page_size l.frames) × (l.at ≤ l.shape.length) × (l.fn.from.frames ≤ l.frames)
    × OnlyReads g.D.Disk l.fn.log l.log
    × (g.D.Disk.faults l.log ≡ g.D.Disk.faults l.fn.log)
    × (IsClean g.D.Disk l.log → (l.before ≡ sum_before l.shape.page_size (g.D.Disk.seen l.fn.log) l.frames)
    × ((i : ℕ) → l.fn.from.frames ≤ i → i < l.frames → PassesQuietly l.shape.page_size (g.D.Disk.seen l.fn.log) i))

abbrev pub decreases-loop-buf : goal.decreases-loop-buf
decreases-loop-buf g l = l.shape.length - l.at
