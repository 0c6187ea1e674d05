use Rattle.std.proofs.Common.{◌≡◌, ◌≤◌}
use Rattle.ballots.specs.Voting.{count_below}
use Rattle.learner.specs.Tally.{is_voter}
use Rattle.learner.proofs.groups.Voters.count.Given as goal

abbrev pub invariant-loop-node : goal.invariant-loop-node
invariant-loop-node l = (l.count ≡ count_below (is_voter l.fn.self) l.node) × (l.count ≤ l.node)
