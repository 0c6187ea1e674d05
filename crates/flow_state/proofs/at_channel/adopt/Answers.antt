use Rattle.std.proofs.Common.{◌≡◌, true, false, [], ◌∷◌, ◌++◌, Option, Some, None, refl, is_some, sym, ap, ◌∙◌, nat_eq}
use Rattle.std.specs.Map.{lookup}
use Rattle.indexmap.proofs.CallerLemmas.{insert_entry-new}
use Rattle.flow_state.specs.Rows.{Table}
use Rattle.flow_state.specs.Tests.{is_firm_whole}
use Rattle.flow_state.proofs.Adopted.{adoptable}
use Rattle.flow_state.proofs.Firmness.{firm_passes}
use Rattle.flow_state.proofs.Tables.{table_found}
use Rattle.flow_state.proofs.at_channel.adopt.Goals as goal

none_from : (o : Option Table) → false ≡ is_some o → o ≡ None
none_from (Some t) h = absurd cc
none_from None h = refl

pub returns-then-not-is_firm-clause-refused : goal.returns-then-not-is_firm-clause-refused
returns-then-not-is_firm-clause-refused c = λ a. let on : is_firm_whole c.args.whole.now ≡ true = firm_passes c.args.whole.now a.firm a.dues in cc

pub returns-then-contains_key-clause-refused : goal.returns-then-contains_key-clause-refused
returns-then-contains_key-clause-refused c = λ a.
    let none : lookup (nat_eq c.args.whole.now.row.channel.id) c.args.tables.now.entries ≡ None = sym (table_found c.args.tables.now.entries c.args.whole.now.row.channel.id c.requires.ids) ∙ a.new in
    let off : is_some (lookup (nat_eq c.args.whole.now.row.channel.id) c.args.tables.now.entries) ≡ false = ap (λ (o : Option Table). is_some o) none in
    cc

pub returns-in_default-clause-refused : goal.returns-in_default-clause-refused
returns-in_default-clause-refused c = adoptable c.args.tables.now.entries c.args.whole.now c.requires.ids c.is_firm.ensures.fits (sym c.if-not-is_firm.ensures.test) (none_from _ c.if-contains_key.ensures)

pub returns-in_default-insert-clause-refused : goal.returns-in_default-insert-clause-refused
returns-in_default-insert-clause-refused c = adoptable c.args.tables.now.entries c.args.whole.now c.requires.ids c.is_firm.ensures.fits (sym c.if-not-is_firm.ensures.test) (none_from _ c.if-contains_key.ensures)

pub returns-clause-ok : goal.returns-clause-ok
returns-clause-ok c = (
  adoptable c.args.tables.now.entries c.args.whole.now c.requires.ids c.is_firm.ensures.fits (sym c.if-not-is_firm.ensures.test) (none_from _ c.if-contains_key.ensures),
  c.in-Ok-insert.ensures.entries
      ∙ insert_entry-new nat_eq c.args.tables.now c.args.whole.now.row.channel.id c.in-Ok.table (none_from _ c.if-contains_key.ensures)
      ∙ ap (λ (t : Table). c.args.tables.now.entries ++ (c.args.whole.now.row.channel.id, t) ∷ []) c.in-Ok.ensures,
)
