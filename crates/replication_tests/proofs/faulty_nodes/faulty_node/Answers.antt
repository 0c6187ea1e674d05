use Rattle.std.proofs.Common.{ap, sym, ◌∙◌}
use Rattle.acceptor.specs.Content.{no_content}
use Rattle.node.specs.Calls.{Who}
use Rattle.replication_tests.proofs.faulty_nodes.faulty_node.Goals as goal

pub new-requires-clause-certain : goal.new-requires-clause-certain
new-requires-clause-certain c _ = ∣ (no_content, (∣ sym c.new-records.ensures.empty ∣₁, λ d is. is ∙ c.new-records.ensures.empty)) ∣₁

pub returns : goal.returns
returns c = record {
  id = ap (λ (w : Who). w.id) c.new.ensures.who;
  members = ap (λ (w : Who). w.members) c.new.ensures.who;
  up = ap (λ (w : Who). w.down) c.new.ensures.who;
  fresh = λ honest. c.new.ensures.stands no_content (∣ sym c.new-records.ensures.empty ∣₁, λ d is. is ∙ c.new-records.ensures.empty);
}
