use Rattle.std.proofs.Common.{◌≡◌, ◌-◌, ◌++◌}
use Rattle.ballots.specs.Members.{member_count}
use Rattle.proposer.specs.Letters.{proposals}
use Rattle.proposer.proofs.proposer.Proposer.proposals.Given as goal

abbrev pub invariant-loop-place : goal.invariant-loop-place
invariant-loop-place l =
    l.letters.items ++ proposals (member_count l.fn.self.members) l.fn.self.id l.fn.ballot l.fn.joined l.place (l.fn.next - l.place)
    ≡ proposals (member_count l.fn.self.members) l.fn.self.id l.fn.ballot l.fn.joined l.fn.first (l.fn.next - l.fn.first)
