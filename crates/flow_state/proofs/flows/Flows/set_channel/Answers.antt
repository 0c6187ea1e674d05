use Rattle.std.proofs.Common.{◌≡◌, [], ◌∷◌, ◌++◌, Option, refl, sym, ap, subst, ◌∙◌}
use Rattle.std.specs.Prelude.{OnOk, IfErr, Result, Ok, Err}
use Rattle.std.proofs.lemmas.List.{map-append}
use Rattle.std.proofs.lemmas.Result.{MatchResult-weaker, on_ok_weaker}
use Rattle.flow_state.specs.declared.channel.Channel.{Channel}
use Rattle.flow_state.specs.declared.refusal.Refusal.{Refusal}
use Rattle.flow_state.specs.Entries.{Entries, AreIds, rows_of}
use Rattle.flow_state.specs.Rows.{Rows}
use Rattle.flow_state.specs.Refusals.{Refuses}
use Rattle.flow_state.specs.Changes.{new_table, with_channel}
use Rattle.flow_state.proofs.Tables.{ids_more, channel_refusal_at}
use Rattle.flow_state.proofs.flows.Flows.set_channel.Goals as goal

ids_after : {T : Type 0} (P : Type 0) (Q : Refusal → Type 0) (r : Result T Refusal) (es fs : Entries) (c : Channel) → AreIds es → OnOk r (P × (fs ≡ es ++ (c.id, new_table c) ∷ [])) → IfErr r (λ e. Q e × (fs ≡ es)) → AreIds fs
ids_after P Q (Ok x) es fs c ids ok err = subst AreIds (sym ok.1) (ids_more es (c.id, new_table c) ids refl)
ids_after P Q (Err e) es fs c ids ok err = subst AreIds (sym err.1) ids

pub invariant_of-self : goal.invariant_of-self
invariant_of-self c = record {
  ids = ids_after _ _ c.set_channel.result c.self.inside.tables.entries c.set_channel.new.tables.entries c.args.channel c.self.invariant.ids c.set_channel.ensures.ok c.set_channel.ensures.err;
  unique = c.set_channel.ensures.unique c.self.invariant.unique;
}

pub returns-clause-ok : goal.returns-clause-ok
returns-clause-ok c =
    on_ok_weaker c.set_channel.result
    (λ p. (
      sym (channel_refusal_at c.self.inside.tables.entries c.args.self.now c.args.channel.id c.self.invariant.ids c.self.invariant.unique c.self.view_is c.args.channel refl) ∙ p.0,
      ap rows_of p.1 ∙ map-append (λ e. e.1) c.self.inside.tables.entries ((c.args.channel.id, new_table c.args.channel) ∷ []) ∙ ap (λ (r : Rows). with_channel r c.args.channel) c.self.view_is,
    ))
    c.set_channel.ensures.ok

pub returns-clause-err : goal.returns-clause-err
returns-clause-err c =
    MatchResult-weaker c.set_channel.result c.set_channel.ensures.err (λ x t. t)
    (λ e p. (
      subst (λ (o : Option Refusal). Refuses o e) (channel_refusal_at c.self.inside.tables.entries c.args.self.now c.args.channel.id c.self.invariant.ids c.self.invariant.unique c.self.view_is c.args.channel refl) p.0,
      ap rows_of p.1 ∙ c.self.view_is,
    ))
