use Rattle.std.proofs.Common.{◌≤◌, sym, arith}
use Rattle.flow_state.specs.declared.flow.Waiting.{Waiting}
use Rattle.flow_state.specs.StoredTable.{is_ended_in}
use Rattle.flow_state.proofs.Stored.{none_ended, not_ended, filter_kept}
use Rattle.flow_state.proofs.table.forget_all_ended.Goals as goal

pub returns-then-end-first_end_before-clause-requests : goal.returns-then-end-first_end_before-clause-requests
returns-then-end-first_end_before-clause-requests c =
    let early : c.args.end ≤ c.args.first_end_before = omega arith in
    sym (filter_kept (λ (w : Waiting). is_ended_in c.args.flows.now.entries c.args.end w.sid) c.args.waiting.now.items (λ w. not_ended c.args.flows.now.entries c.args.first_end_before c.args.end w.sid c.requires early))

pub returns-then-end-first_end_before-clause-kept : goal.returns-then-end-first_end_before-clause-kept
returns-then-end-first_end_before-clause-kept c =
    let early : c.args.end ≤ c.args.first_end_before = omega arith in
    sym (none_ended c.args.flows.now.entries c.args.first_end_before c.args.end c.requires early)
