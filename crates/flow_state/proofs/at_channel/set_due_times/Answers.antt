use Rattle.std.proofs.Common.{◌+◌, arith, drop, List, sym, ap, subst, ◌∙◌, None}
use Rattle.flow_state.specs.declared.flow.FlowKind.TheVariants.{BestEffort}
use Rattle.std.specs.List.{AllByRecursion}
use Rattle.std.proofs.Math.ListN.{get_or}
use Rattle.std.proofs.lemmas.List.{drop_more, drop_all}
use Rattle.flow_state.specs.declared.flow.Flow.{Flow}
use Rattle.flow_state.specs.Rows.{Table}
use Rattle.flow_state.specs.Changes.{no_lease, told_in_table, TellsDue}
use Rattle.flow_state.proofs.Told.{none_told, one_told, all_tell}
use Rattle.flow_state.proofs.at_channel.set_due_times.Goals as goal

abbrev blank : Flow
blank = record { lease = no_lease; kind = BestEffort 0; due = 0; last_sent = None }

pub loop-flow-preserved : goal.loop-flow-preserved
loop-flow-preserved c =
    let xs : List Flow = c.args.served.now in
    let i = c.loop-flow.flow-index in
    record {
      rest =
          c.loop-flow.invariant.rest
          ∙ ap (told_in_table c.loop-flow.table) (drop_more xs i blank c.loop-flow-test.true)
          ∙ one_told c.loop-flow.table (get_or xs i blank) (drop (i + 1) xs)
          ∙ ap (λ (t : Table). told_in_table t (drop (i + 1) xs)) (sym c.set_due.ensures.table);
      tell = subst (λ (t : Table). AllByRecursion (TellsDue t) c.args.served.now) (sym c.set_due.ensures.table) (all_tell c.loop-flow.table _ _ c.args.served.now c.loop-flow.invariant.tell);
    }

pub returns : goal.returns
returns c = sym (c.loop-flow.invariant.rest ∙ ap (told_in_table c.loop-flow.table) (drop_all c.loop-flow.flow-index c.args.served.now (omega arith)) ∙ none_told c.loop-flow.table)
