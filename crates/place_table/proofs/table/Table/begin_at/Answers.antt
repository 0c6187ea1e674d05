use Rattle.std.proofs.Common.{◌≡◌, [], rules, ap, ◌∙◌}
use Rattle.place_table.specs.Entries.{Entries}
use Rattle.place_table.proofs.Places.{begins}
use Rattle.place_table.proofs.table.Table.begin_at.Goals as goal

pub invariant_of-self : goal.invariant_of-self
invariant_of-self g c =
    let s = c.self.inside in
    let none : c.args.self.now.entries ≡ [] = search rules in
    (begins s.before.entries s.first s.run.items s.after.entries c.args.place (ap (λ (t : Entries g.row.V.Denot). t.entries) c.self.view_is ∙ none)).0

pub returns-then-is_empty : goal.returns-then-is_empty
returns-then-is_empty g c =
    let s = c.self.inside in
    let none : c.args.self.now.entries ≡ [] = search rules in
    let same = (begins s.before.entries s.first s.run.items s.after.entries c.args.place (ap (λ (t : Entries g.row.V.Denot). t.entries) c.self.view_is ∙ none)).1 in
    (λ i. record { entries = same i }) ∙ c.self.view_is
