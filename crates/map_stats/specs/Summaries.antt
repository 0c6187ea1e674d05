-- What is told of a flow by the sums over its rows.
use Rattle.std.specs.Prelude.{◌≡◌, ℕ, ◌+◌, ◌-◌, ◌*◌, ◌/◌, List, length, sum, slice_index}
use Rattle.std.specs.List.Sorted.{IsPermutation, IsSorted}
use Rattle.std.specs.Ordering.{nat_cmp}
use Rattle.map_stats.specs.declared.summary.Delays.{Delays}
use Rattle.map_stats.specs.declared.summary.Summary.{Summary}
use Rattle.map_stats.specs.Sums.{Sums}

-- the value at a rank, counted from 1, of numbers in order
abbrev pub at_rank : List ℕ → ℕ → ℕ
at_rank sorted rank = slice_index sorted (rank - 1)

-- the nearest rank of the 99th percentile: 99 hundredths of how many there are, rounded up
abbrev pub rank_99 : ℕ → ℕ
rank_99 n = (99 * n + 99) / 100

-- these delays: their sum, and of the same in order the 99th percentile and the last one
pub record AreDelays (delays : List ℕ) (d : Delays) : Type 0 where
  pub sorted : List ℕ
  pub same : IsPermutation delays sorted
  pub ascend : IsSorted nat_cmp sorted
  pub count : d.count ≡ length delays
  pub sum_is : d.sum ≡ sum delays
  pub most : d.most ≡ at_rank sorted (rank_99 (length delays))
  pub longest : d.longest ≡ at_rank sorted (length delays)

-- what is told of a flow
pub record IsSummary (p : Sums) (s : Summary) : Type 0 where
  pub asked : s.asked ≡ p.asked
  pub delays : AreDelays p.delays s.delays
  pub waits : s.waits ≡ p.waits
  pub windows : s.windows ≡ p.windows
  pub missed : s.missed ≡ p.missed
