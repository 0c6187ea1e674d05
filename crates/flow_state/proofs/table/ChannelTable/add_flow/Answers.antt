use Rattle.std.proofs.Common.{◌≡◌, true, false, ◌&&◌, sym, ap, ◌∙◌}
use Rattle.flow_state.specs.Limits.{is_good_kind}
use Rattle.flow_state.specs.Rows.{Table}
use Rattle.flow_state.specs.Refusals.{is_good_last}
use Rattle.flow_state.specs.Changes.{add_to_table}
use Rattle.flow_state.proofs.Adding.{new_refusal, table_is}
use Rattle.flow_state.proofs.table.ChannelTable.add_flow.Goals.{then-is_good, else-is_good}
use Rattle.flow_state.proofs.table.ChannelTable.add_flow.Goals as goal

pub returns-in_ok-insert_flow-in-Some-free_sid-clause-ok : goal.returns-in_ok-insert_flow-in-Some-free_sid-clause-ok
returns-in_ok-insert_flow-in-Some-free_sid-clause-ok c =
    let leases = sym (ap (λ (t : Table). t.leases) c.self.view_is) in
    let start = sym (ap (λ (t : Table). t.row.next_start) c.self.view_is) in
    let none = c.in_default.ensures c.args.self.now leases start in
    let free = c.in-Some-free_sid.ensures c.args.self.now leases start in
    let first = c.first_of-first.ensures c.args.self.now leases start in
    let good : (is_good_kind c.args.kind && is_good_last c.args.self.now c.args.last) ≡ true = elim c.if-is_good.branch [
      | then-is_good w ↦ ap (λ b. b && is_good_last c.args.self.now c.args.last) (sym c.is_good.ensures ∙ w.if-is_good.true) ∙ sym w.is_good_last.ensures ∙ sym w.value-is ∙ c.if-not-is_good_last.false
      | else-is_good w ↦ absurd (let off : c.if-is_good.value ≡ false = w.value-is ∙ w.if-is_good.false in let on : c.if-is_good.value ≡ true = c.if-not-is_good_last.false in let apart : false ≡ true = sym off ∙ on in cc)
    ] in (
      new_refusal c.args.self.now c.args.modem c.args.tag c.args.last c.args.kind c.in-Some-free_sid.sid none good free,
      c.in_ok-insert_flow-in-Some-free_sid.ensures.ok
          ∙ ap (λ n. add_to_table c.args.self.now (record { sid = c.in-Some-free_sid.sid; modem = c.args.modem; tag = c.args.tag; first = n; last = c.args.last }) c.args.kind) first
          ∙ table_is c.args.self.now c.args.modem c.args.tag c.args.last c.args.kind c.in-Some-free_sid.sid none free,
    )
