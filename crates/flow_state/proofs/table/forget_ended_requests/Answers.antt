use Rattle.std.proofs.Common.{rules, not}
use Rattle.std.proofs.lemmas.Fn.{filter_same}
use Rattle.flow_state.specs.StoredTable.{is_ended_in}
use Rattle.flow_state.proofs.table.forget_ended_requests.Goals as goal

pub returns : goal.returns
returns c = filter_same _ (λ w. not (is_ended_in c.args.flows.now.entries c.args.end w.sid)) _ (λ x b f k. search rules) _ _ c.retain.ensures.filtered
