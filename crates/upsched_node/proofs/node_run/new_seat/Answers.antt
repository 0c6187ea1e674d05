use Rattle.std.proofs.Common.{ap, sym, ◌∙◌}
use Rattle.acceptor.specs.Content.{no_content}
use Rattle.node.specs.Calls.{Who}
use Rattle.upsched_node.proofs.New.{new_seat}
use Rattle.upsched_node.proofs.node_run.new_seat.Goals as goal

pub returns : goal.returns
returns c =
    new_seat _ _ c.new.result c.new-2.result c.new-2.ensures.node c.new-2.ensures.up (ap (λ (w : Who). w.id) c.new.ensures.who) (ap (λ (w : Who). w.members) c.new.ensures.who)
    (c.new.ensures.stands no_content (∣ sym c.new-records.ensures ∣₁, λ d is. is ∙ c.new-records.ensures))
