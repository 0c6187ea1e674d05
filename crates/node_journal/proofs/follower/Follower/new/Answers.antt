use Rattle.std.proofs.Common.{◌∙◌, List, [], ap, sym, subst, arith}
use Rattle.acceptor.specs.Content.{no_content}
use Rattle.node.specs.Calls.{Who}
use Rattle.node_journal.specs.Journal.{Writes}
use Rattle.node_journal.specs.Journal.Writes.{nothing}
use Rattle.node_journal.specs.declared.phase.Phase.TheVariants.{Unborn}
use Rattle.node_worker.specs.Entries.{EntryView}
use Rattle.node_worker.specs.KeptView.{KeptView}
use Rattle.node_journal.proofs.follower.Follower.new.Goals as goal

pub new-requires-clause-fresh : goal.new-requires-clause-fresh
new-requires-clause-fresh c = λ honest. c.new-node.ensures.stands no_content (∣ sym c.new-records.ensures ∣₁, λ d is. is ∙ c.new-records.ensures)

pub returns-clause-followed : goal.returns-clause-followed
returns-clause-followed c = λ text. record {
  node = ap (λ (k : KeptView). k.node) c.in_ok-new.ensures ∙ ap (λ (w : Who). w.id) c.new-node.ensures.who;
  members = ap (λ (k : KeptView). k.members) c.in_ok-new.ensures ∙ ap (λ (w : Who). w.members) c.new-node.ensures.who;
  within = omega arith;
  written = subst (λ (es : List EntryView). Writes c.args.id c.args.members [] es Unborn) (sym (ap (λ (k : KeptView). k.entries) c.in_ok-new.ensures)) nothing;
  torn = tt;
}
