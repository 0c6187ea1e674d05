use Rattle.std.proofs.Common.{◌≡◌, ◌≤◌, nat_eq}
use Rattle.std.specs.List.{list_any}
use Rattle.ballots.specs.Voting.{count_below}
use Rattle.proposer.proofs.promises.Nodes.count.Given as goal

abbrev pub invariant-loop-number : goal.invariant-loop-number
invariant-loop-number l = (l.count ≡ count_below (λ n. list_any (nat_eq n) l.fn.self) l.number) × (l.count ≤ l.number)
