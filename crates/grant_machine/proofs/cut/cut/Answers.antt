use Rattle.std.proofs.Common.{◌≡◌, ℕ, ◌≤◌, true, List, max, is_none, Option, Some, None, refl, sym, ap, subst, ◌∙◌}
use Rattle.std.proofs.Common.{arith}
use Rattle.std.specs.List.{AllByRecursion}
use Rattle.map_body.specs.Layout.{layout}
use Rattle.flow_state.specs.declared.channel.ChannelRow.{ChannelRow}
use Rattle.flow_state.specs.declared.flow.Flow.{Flow}
use Rattle.flow_state.specs.declared.refusal.Refusal.{Refusal}
use Rattle.flow_state.specs.Limits.{last_time}
use Rattle.flow_state.specs.Rows.{Rows, Table, table_of}
use Rattle.flow_state.specs.Changes.{TellsDue}
use Rattle.grant_machine.specs.declared.cut.Draft.{Draft}
use Rattle.grant_machine.specs.declared.output.Output.{Output}
use Rattle.grant_machine.specs.declared.output.Output.TheVariants as outputs
use Rattle.grant_machine_parts.specs.declared.placing.Placement.{Placement}
use Rattle.grant_machine_parts.specs.declared.settings.CutSettings.{CutSettings}
use Rattle.grant_machine_parts.specs.Cutting.{fill_refusal, told_channel, span_of, ack_of, end_of}
use Rattle.grant_machine_parts.specs.Drawing.{head_of}
use Rattle.grant_machine.specs.Steps.{cut_command, step}
use Rattle.grant_machine.specs.Runs.{IsReached}
use Rattle.grant_machine.specs.CutRows.{IsReachedTable, rows_closed}
use Rattle.grant_machine.specs.Plans.{IsFilledBy, elements_in}
use Rattle.grant_machine.proofs.Closing.{table_early, settled, good_again, made_tell, made_rows, made_output}
use Rattle.grant_machine.proofs.cut.cut.Goals as goal

none_of : (o : Option Refusal) → true ≡ is_none o → o ≡ None
none_of (Some r) e = absurd cc
none_of None e = refl

table_same : (o : Option Table) (t u : Table) → Some t ≡ o → o ≡ Some u → t ≡ u
table_same o t u e f = let two : Some t ≡ Some u = e ∙ f in cc

-- the channel's table is there
module _ (rows : Rows) (reached : IsReached rows) (ch : ℕ) (t : Table) (found : Some t ≡ table_of rows ch) (row : ChannelRow) (row_is : row ≡ t.row) where
  abbrev there : IsReachedTable t
  there = record { rows = rows; channel = ch; reached = reached; found = sym found }

  early : row.next_start ≤ last_time
  early = subst (λ (r : ChannelRow). r.next_start ≤ last_time) (sym row_is) (table_early t there).0

  -- and a MAP is within its limits, which begins where it does, with the Ack Time that it has
  module _ (asks now : CutSettings) (start a : ℕ) (ok : true ≡ is_none (fill_refusal row asks)) (begun : start ≡ max row.next_start asks.not_before) (acked : a ≡ ack_of row asks.ack start) (now_is : now ≡ record asks { not_before = start; ack = a }) where
    good : fill_refusal t.row asks ≡ None
    good = ap (λ (r : ChannelRow). fill_refusal r asks) (sym row_is) ∙ none_of _ ok

    start_is : start ≡ max t.row.next_start asks.not_before
    start_is = begun ∙ ap (λ (r : ChannelRow). max r.next_start asks.not_before) row_is

    ack_is : a ≡ ack_of t.row asks.ack (max t.row.next_start asks.not_before)
    ack_is = acked ∙ ap (λ (r : ChannelRow). ack_of r asks.ack start) row_is ∙ ap (λ n. ack_of t.row asks.ack n) start_is

    settled_is : now ≡ settled t asks
    settled_is = now_is ∙ ap (λ n. record asks { not_before = n; ack = a }) start_is ∙ ap (λ n. record asks { not_before = max t.row.next_start asks.not_before; ack = n }) ack_is

    within : fill_refusal t.row now ≡ None
    within = ap (fill_refusal t.row) settled_is ∙ good_again t asks there good

    later : t.row.next_start ≤ now.not_before
    later = subst (λ (s : CutSettings). t.row.next_start ≤ s.not_before) (sym settled_is) (omega arith)

    -- its MAP is filled
    module _ (x : Draft) (by : IsFilledBy t (record { start = now.not_before; len = now.len }) now x) where
      filled : IsFilledBy t (span_of t.row asks.len asks.not_before) asks x
      filled = again (subst (λ (s : CutSettings). IsFilledBy t (record { start = s.not_before; len = s.len }) s x) settled_is by)
        where
          again : IsFilledBy t (span_of t.row asks.len asks.not_before) (settled t asks) x → IsFilledBy t (span_of t.row asks.len asks.not_before) asks x
          again f = record { span_is = f.span_is; placements = f.placements; flows = f.flows; lent = f.lent; requests = f.requests; lasts = f.lasts }

      tell : (fs : List Flow) → fs ≡ x.flows.items → (u : Table) → table_of rows ch ≡ Some u → AllByRecursion (TellsDue u) fs
      tell fs same u e =
          subst (λ (v : Table). AllByRecursion (TellsDue v) fs) (table_same _ t u found e)
          (subst (λ (gs : List Flow). AllByRecursion (TellsDue t) gs) (sym same) (made_tell t asks x there good filled))

      told : (output : Output) → output ≡ outputs.Map ch now.not_before now.len (layout (head_of (told_channel t.row.channel now) now.not_before now.ack) (elements_in t.row.channel x) 0) → output ≡ (step rows (cut_command ch asks)).output
      told output is =
          is
          ∙ ap (λ (s : CutSettings). outputs.Map ch s.not_before s.len (layout (head_of (told_channel t.row.channel s) s.not_before s.ack) (elements_in t.row.channel x) 0)) settled_is
          ∙ made_output t asks x there good filled

      closed : (fs : List Flow) (ps : List Placement) (end : ℕ) → fs ≡ x.flows.items → ps ≡ x.filling.placements → end ≡ end_of x.filling.span → rows_closed rows ch fs ps end a ≡ (step rows (cut_command ch asks)).rows
      closed fs ps end flows placements ended =
          ap (λ (gs : List Flow). rows_closed rows ch gs ps end a) flows
          ∙ ap (λ (qs : List Placement). rows_closed rows ch x.flows.items qs end a) placements
          ∙ ap (λ n. rows_closed rows ch x.flows.items x.filling.placements n a) ended
          ∙ ap (λ n. rows_closed rows ch x.flows.items x.filling.placements (end_of x.filling.span) n) ack_is
          ∙ made_rows t asks x there good filled

pub is_within_limits-requires : goal.is_within_limits-requires
is_within_limits-requires c = early c.args.flows.now c.requires c.args.ch c.in-Some.table.now c.in-Some.ensures c.row-row.result.now c.row-row.ensures.row

pub make_map-requires-clause-good : goal.make_map-requires-clause-good
make_map-requires-clause-good c =
    within c.args.flows.now c.requires c.args.ch c.in-Some.table.now c.in-Some.ensures c.row-row.result.now c.row-row.ensures.row
    c.args.settings _ c.start_of-not_before.result c.ack_of-ack.result c.if-not-is_within_limits.ensures c.start_of-not_before.ensures c.ack_of-ack.ensures refl

pub close-requires : goal.close-requires
close-requires c =
    tell c.args.flows.now c.requires c.args.ch c.in-Some.table.now c.in-Some.ensures c.row-row.result.now c.row-row.ensures.row
    c.args.settings _ c.start_of-not_before.result c.ack_of-ack.result c.if-not-is_within_limits.ensures c.start_of-not_before.ensures c.ack_of-ack.ensures refl
    c.make_map.new.desk.filled c.in_ok-output.ensures.filled c.deref.result.now c.deref.ensures.value

pub returns-clause-output : goal.returns-clause-output
returns-clause-output c =
    told c.args.flows.now c.requires c.args.ch c.in-Some.table.now c.in-Some.ensures c.row-row.result.now c.row-row.ensures.row
    c.args.settings _ c.start_of-not_before.result c.ack_of-ack.result c.if-not-is_within_limits.ensures c.start_of-not_before.ensures c.ack_of-ack.ensures refl
    c.make_map.new.desk.filled c.in_ok-output.ensures.filled c.in_ok-output.output c.in_ok-output.ensures.output

pub returns-clause-rows : goal.returns-clause-rows
returns-clause-rows c =
    c.close.ensures
    ∙ closed c.args.flows.now c.requires c.args.ch c.in-Some.table.now c.in-Some.ensures c.row-row.result.now c.row-row.ensures.row
    c.args.settings _ c.start_of-not_before.result c.ack_of-ack.result c.if-not-is_within_limits.ensures c.start_of-not_before.ensures c.ack_of-ack.ensures refl
    c.make_map.new.desk.filled c.in_ok-output.ensures.filled c.deref.result.now c.placements.result.now c.end.result c.deref.ensures.value c.placements.ensures.same c.end.ensures.same
