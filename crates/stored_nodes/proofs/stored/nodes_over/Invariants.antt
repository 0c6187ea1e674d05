use Rattle.std.specs.Prelude.{◌≤◌, not}
use Rattle.ballots.specs.Members.{member_count}
use Rattle.acceptor_store.specs.Linked.{MayFind, is_honest}
use Rattle.node.specs.Sched.{Stands, who_of}
use Rattle.seats.proofs.Callers.{AreFirst}
use Rattle.stored_nodes.proofs.stored.nodes_over.Given as goal

abbrev pub invariant-loop-number : goal.invariant-loop-number
invariant-loop-number g l =
    (l.number ≤ member_count l.members) × AreFirst (λ n. who_of (λ r. r.failures) (λ r. not r.is_up) n.parts) (λ n. is_honest g.F.Base.Store n.parts.records) (λ n s. Stands (λ r. MayFind g.F.Base.Store r.owner r.held) n.parts s)
    (member_count l.members) l.number l.nodes.items
