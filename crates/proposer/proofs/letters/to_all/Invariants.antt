use Rattle.std.proofs.Common.{◌≡◌, ◌≤◌}
use Rattle.ballots.specs.Members.{member_count}
use Rattle.proposer.specs.Letters.{to_all}
use Rattle.proposer.proofs.letters.to_all.Given as goal

abbrev pub invariant-loop-number : goal.invariant-loop-number
invariant-loop-number l = (l.letters.items ≡ to_all l.number l.fn.from l.fn.note) × (member_count l.fn.members ≤ 5)
