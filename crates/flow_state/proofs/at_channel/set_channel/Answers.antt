use Rattle.std.proofs.Common.{◌≡◌, false, not, if◌then◌else◌, [], ◌∷◌, ◌++◌, Option, Some, None, refl, sym, ap, ◌∙◌}
use Rattle.std.proofs.Common.{nat_eq, is_some}
use Rattle.std.specs.Map.{lookup}
use Rattle.indexmap.proofs.CallerLemmas.{insert_entry-new}
use Rattle.flow_state.specs.declared.refusal.Refusal.TheVariants.{BadValue, ChannelThere}
use Rattle.flow_state.specs.Rows.{Table}
use Rattle.flow_state.proofs.at_channel.set_channel.Goals as goal

none_from : (o : Option Table) → false ≡ is_some o → o ≡ None
none_from (Some t) h = absurd cc
none_from None h = refl

pub returns-clause-ok : goal.returns-clause-ok
returns-clause-ok c =
    let absent : lookup (nat_eq c.args.channel.id) c.args.tables.now.entries ≡ None = none_from _ c.if-contains_key.ensures in (
      ap (λ b. if not b then Some BadValue else if is_some (lookup (nat_eq c.args.channel.id) c.args.tables.now.entries) then Some ChannelThere else None) (sym c.if-not-is_good.ensures)
          ∙ ap (λ b. if b then Some ChannelThere else None) (sym c.if-contains_key.ensures),
      c.in_ok-insert.ensures.entries
          ∙ insert_entry-new nat_eq c.args.tables.now c.args.channel.id c.new-table.result absent
          ∙ ap (λ (t : Table). c.args.tables.now.entries ++ (c.args.channel.id, t) ∷ []) c.new-table.ensures,
    )
