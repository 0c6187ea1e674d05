use Rattle.std.proofs.Common.{ℕ, List, inl, subst}
use Rattle.node_lines.specs.Lines.{IsRefused}
use Rattle.host_service.proofs.asked.asked_of_node.Goals as goal

pub returns-in-Err : goal.returns-in-Err
returns-in-Err c = inl (subst (λ (line : List ℕ). IsRefused line c.in-Err.why) c.new.ensures c.in-Err.ensures.fault)
