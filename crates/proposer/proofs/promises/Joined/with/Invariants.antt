use Rattle.std.proofs.Common.{◌≡◌, drop}
use Rattle.proposer.specs.Bounds.{AreInLog, in_log}
use Rattle.proposer.specs.Joining.{join}
use Rattle.proposer.proofs.promises.Joined.with.Given as goal

abbrev pub invariant-loop-vote : goal.invariant-loop-vote
invariant-loop-vote l = (join l.rows.entries (in_log (drop l.vote-index l.votes)) ≡ join l.fn.self (in_log l.fn.votes)) × AreInLog l.rows.entries
