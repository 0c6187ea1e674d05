use Rattle.std.proofs.Common.{◌≡◌, ℕ, List, length}
use Rattle.node_service.specs.Serving.{ServesLines}
use Rattle.node_service.specs.declared.outgoing.Reply.{Reply}
use Rattle.node_service.proofs.service.serve.Given as goal

abbrev pub invariant-loop-count : goal.invariant-loop-count
invariant-loop-count g l =
    (turns : List (List ℕ × Reply)) × ServesLines g.A.Actor g.I.Input g.O.Output turns l.initial.actor l.initial.input l.initial.output l.actor l.input l.output × (length turns ≡ l.count)
