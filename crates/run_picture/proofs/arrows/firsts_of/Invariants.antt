use Rattle.std.proofs.Common.{◌≡◌, ◌<◌, ◌-◌, ℕ, drop, get_or, length}
use Rattle.run_picture.specs.Arrows.{first_from}
use Rattle.run_picture.proofs.arrows.firsts_of.Given as goal

-- the first of the events from the one on that was passed last
abbrev pub invariant-loop-passed : goal.invariant-loop-passed
invariant-loop-passed l = record {
  size : length l.firsts.items ≡ l.count;
  first : (k : ℕ) → k < l.count → get_or l.firsts.items k 0 ≡ first_from k (l.total - l.passed) (drop (l.total - l.passed) l.run.rows);
}
