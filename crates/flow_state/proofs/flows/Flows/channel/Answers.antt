use Rattle.std.proofs.Common.{Option, Some, ap, subst, ◌∙◌}
use Rattle.std.specs.Option.{option_map}
use Rattle.std.specs.Prelude.{IfSome}
use Rattle.flow_state.specs.Sound.{IsSound}
use Rattle.flow_state.specs.Rows.{Table}
use Rattle.flow_state.proofs.Tables.{table_at}
use Rattle.flow_state.proofs.flows.Flows.channel.Goals as goal

pub returns-in-Some-clause-row : goal.returns-in-Some-clause-row
returns-in-Some-clause-row c = ap (λ r. Some r) c.row.ensures.row ∙ ap (λ (o : Option Table). option_map (λ t. t.row) o) (c.in-Some.ensures.value ∙ table_at c.self.inside.tables.entries c.args.self.now c.args.ch c.self.invariant.ids c.self.invariant.unique c.self.view_is)

pub returns-in-None-clause-row : goal.returns-in-None-clause-row
returns-in-None-clause-row c = ap (λ (o : Option Table). option_map (λ t. t.row) o) (c.in-None.ensures.value ∙ table_at c.self.inside.tables.entries c.args.self.now c.args.ch c.self.invariant.ids c.self.invariant.unique c.self.view_is)

pub returns-in-Some-clause-sound : goal.returns-in-Some-clause-sound
returns-in-Some-clause-sound c = subst (λ (o : Option Table). IfSome o IsSound) (c.in-Some.ensures.value ∙ table_at c.self.inside.tables.entries c.args.self.now c.args.ch c.self.invariant.ids c.self.invariant.unique c.self.view_is) c.row.ensures.sound

pub returns-in-None-clause-sound : goal.returns-in-None-clause-sound
returns-in-None-clause-sound c = subst (λ (o : Option Table). IfSome o IsSound) (c.in-None.ensures.value ∙ table_at c.self.inside.tables.entries c.args.self.now c.args.ch c.self.invariant.ids c.self.invariant.unique c.self.view_is) tt
