use Rattle.std.proofs.Common.{◌≡◌, Bool, Option, ap, ◌∙◌, is_some}
use Rattle.std.specs.Option.{option_map, option_or}
use Rattle.flow_state.specs.Rows.{Table}
use Rattle.flow_state.specs.Reasons.{reason_refusal, if_so, why_bad_channel, why_set_channel}
use Rattle.flow_state.specs.declared.reason.Reason.{Reason}
use Rattle.flow_state.specs.declared.reason.Reason.TheVariants.{ChannelThere}
use Rattle.flow_state.proofs.Tables.{table_at}
use Rattle.flow_state.proofs.Whys.{set_refuses}
use Rattle.flow_state.proofs.flows.Flows.why_set_channel.Goals as goal

why : (c : goal.After-or) → c.or.result ≡ why_set_channel c.args.self.now c.args.channel
why c =
    c.or.ensures
    ∙ ap (λ (o : Option Reason). option_or o c.if_so.result) c.why_bad_channel.ensures
    ∙ ap (λ (o : Option Reason). option_or (why_bad_channel c.args.channel) o) (c.if_so.ensures ∙ ap (λ (b : Bool). if_so b (ChannelThere c.args.channel.id)) (c.contains_key.ensures ∙ ap (λ (o : Option Table). is_some o) (table_at c.self.inside.tables.entries c.args.self.now c.args.channel.id c.self.invariant.ids c.self.invariant.unique c.self.view_is)))

pub returns-clause-why : goal.returns-clause-why
returns-clause-why c = why c

pub returns-clause-refusal : goal.returns-clause-refusal
returns-clause-refusal c = ap (λ (o : Option Reason). option_map reason_refusal o) (why c) ∙ set_refuses c.args.self.now c.args.channel
