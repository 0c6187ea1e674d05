use Rattle.std.proofs.Common.{◌≡◌, ◌+◌, IsTrue}
use Rattle.node_worker.specs.KeptView.{AreTrusted, made_as}
use Rattle.node_worker.proofs.worker.work_through.Given as goal

abbrev pub invariant-loop-kept : goal.invariant-loop-kept
invariant-loop-kept g l =
    (made_as l.kept ≡ made_as l.initial.kept)
    × (AreTrusted g.N.Node.honest → IsTrue l.initial.kept.honest → IsTrue l.kept.honest)
    × (g.C.Carrier.given l.carrier ≡ g.C.Carrier.given l.initial.carrier)
    × (l.kept.turns + g.C.Carrier.left l.carrier ≡ l.turns)

abbrev pub decreases-loop-kept : goal.decreases-loop-kept
decreases-loop-kept g l = g.C.Carrier.left l.carrier
