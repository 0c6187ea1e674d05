use Rattle.std.proofs.Common.{◌≡◌, length, ap, ◌∙◌, arith, eq-eqb}
use Rattle.place_table.specs.Entries.{Entries}
use Rattle.place_table.proofs.Places.{nothing}
use Rattle.place_table.proofs.table.Table.is_empty.Goals as goal

pub returns-then-not-is_empty : goal.returns-then-not-is_empty
returns-then-not-is_empty g c =
    let s = c.self.inside in (
      λ h. absurd (cc (h)),
      λ none.
          let parts = nothing s.before.entries s.first s.run.items s.after.entries (ap (λ (t : Entries g.row.V.Denot). t.entries) c.self.view_is ∙ none) in
          let zero : s.run.len ≡ 0 = omega (arith, ap length parts.1) in
          let no_len = eq-eqb s.run.len 0 zero in
          absurd (cc (no_len, c.is_empty.ensures, c.if-not-is_empty.true)),
    )

pub returns-then-not-is_empty-2 : goal.returns-then-not-is_empty-2
returns-then-not-is_empty-2 g c =
    let s = c.self.inside in (
      λ h. absurd (cc (h)),
      λ none.
          let parts = nothing s.before.entries s.first s.run.items s.after.entries (ap (λ (t : Entries g.row.V.Denot). t.entries) c.self.view_is ∙ none) in
          let is = c.is_empty-2.ensures.1 (ap length parts.0) in
          absurd (cc (is, c.if-not-is_empty-2.true)),
    )
