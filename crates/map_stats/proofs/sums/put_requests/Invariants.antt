use Rattle.std.proofs.Common.{◌≡◌, ℕ, take}
use Rattle.std.specs.List.{fold}
use Rattle.std.specs.Ordering.{nat_cmp}
use Rattle.std.specs.BTreeMap.{get}
use Rattle.map_stats.specs.Sums.{request_step}
use Rattle.map_stats.proofs.sums.put_requests.Given as goal

abbrev pub invariant-loop-row : goal.invariant-loop-row
invariant-loop-row l = (q : ℕ) → get nat_cmp l.sums q ≡ fold (request_step q) (get nat_cmp l.initial.sums q) (take l.row-index l.rows)
