use Rattle.std.specs.Prelude.{option_to_list}
use Rattle.std.specs.Map.{lookup}
use Rattle.std.proofs.Common.{◌++◌, nat_eq, List, filter, sym, ap, ◌∙◌, arith}
use Rattle.flow_state.specs.declared.flow.Flow.{Flow}
use Rattle.flow_state.specs.Limits.{last_sid}
use Rattle.flow_state.specs.StoredTable.{is_due_stored}
use Rattle.flow_state.proofs.Stored.{Flows}
use Rattle.flow_state.proofs.Noted.{values, none_left, next_due, all_due}
use Rattle.flow_state.proofs.table.copy_due.Goals as goal

pub loop-sid-init : goal.loop-sid-init
loop-sid-init c = c.clear.ensures.items ∙ ap (λ (es : Flows). filter (is_due_stored c.args.end) (values es)) (sym (none_left c.args.flows.now.entries 0 last_sid 0 c.requires.rising (omega arith)))

pub loop-sid-preserved : goal.loop-sid-preserved
loop-sid-preserved c =
    let some = c.in-Some.ensures.some in
    c.in_ok-copy_if_due.ensures
    ∙ ap (λ (fs : List Flow). fs ++ filter (is_due_stored c.args.end) (option_to_list (lookup (nat_eq c.in-Some.sid) c.args.flows.now.entries))) c.loop-sid.invariant
    ∙ sym (next_due c.args.dues.now c.args.flows.now.entries 0 last_sid c.loop-sid.from c.in-Some.sid c.args.end c.requires.rising c.requires.noted some.0 some.2)

pub returns : goal.returns
returns c = c.loop-sid.invariant ∙ all_due c.args.dues.now c.args.flows.now.entries 0 last_sid c.loop-sid.from c.args.end c.requires.rising c.requires.noted c.in_default.ensures.none
