use Rattle.std.proofs.Common.{rules, ◌≡◌, ap, ◌∙◌, not, List}
use Rattle.std.specs.List.{filter}
use Rattle.std.proofs.lemmas.Fn.{filter_same}
use Rattle.flow_state.specs.declared.flow.Waiting.{Waiting}
use Rattle.flow_state.specs.Rows.{Table, is_of, without_request}
use Rattle.flow_state.specs.View.{table_view}
use Rattle.flow_state.proofs.table.ChannelTable.granted.Goals as goal

pub returns-clause-table : goal.returns-clause-table
returns-clause-table c =
    let kept : c.retain.new.self.items ≡ filter (λ w. not (is_of c.args.sid w)) c.self.inside.waiting.items = filter_same _ (λ w. not (is_of c.args.sid w)) _ (λ x b f k. search rules) _ _ c.retain.ensures.filtered in
    ap (λ (ws : List Waiting). record (table_view c.self.inside) { waiting = ws }) kept ∙ ap (λ (t : Table). without_request t c.args.sid) c.self.view_is
