use Rattle.ballots.specs.Members.{member_count}
use Rattle.seats.proofs.Fresh.{AreFirst}
use Rattle.seats.proofs.opening.nodes_by_number.Given as goal

abbrev pub invariant-loop-number : goal.invariant-loop-number
invariant-loop-number g l = AreFirst g.N.Node.who g.N.Node.honest g.N.Node.stands (member_count l.fn.members) l.number l.nodes.items
