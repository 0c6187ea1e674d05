use Rattle.std.proofs.Common.{ap, refl}
use Rattle.acceptor.specs.Content.{no_content}
use Rattle.node.specs.Calls.{Who}
use Rattle.hosts.proofs.opens.NewNodesOpens.open.Goals as goal

pub returns-clause-opened : goal.returns-clause-opened
returns-clause-opened g c = record {
  id = ap (λ (w : Who). w.id) c.new.ensures.who;
  members = ap (λ (w : Who). w.members) c.new.ensures.who;
  up = ap (λ (w : Who). w.down) c.new.ensures.who;
  begins = λ honest. (no_content, refl, c.new.ensures.stands no_content c.new_records-records.ensures.holds);
}
