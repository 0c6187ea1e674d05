use Rattle.std.proofs.Common.{◌≡◌, ◌<◌, arith, length, ap, sym, ◌∙◌, Some, None, refl}
use Rattle.flow_state.specs.Limits.{most_waiting}
use Rattle.flow_state.specs.Rows.{Table}
use Rattle.flow_state.specs.Refusals.{table_request_refusal}
use Rattle.flow_state.specs.Changes.{request_in_table}
use Rattle.flow_state.specs.StoredTable.{with_sent}
use Rattle.flow_state.specs.View.{table_view}
use Rattle.flow_state.proofs.Wells.{is_asked}
use Rattle.flow_state.proofs.Soundness.{sound_requested}
use Rattle.flow_state.proofs.Stored.{stored_as, with_parts, stored_written, ends_written, flow_written}
use Rattle.flow_state.proofs.Noted.{noted_sent, keys_apart}
use Rattle.flow_state.proofs.table.ChannelTable.request.Goals as goal

written : (c : goal.After-note_sent) → table_view (record { row = c.self.inside.row; leases = c.self.inside.leases; flows = c.note_sent.new.self; first_end = c.self.inside.first_end; dues = c.self.inside.dues; waiting = c.push.new.self }) ≡ request_in_table (table_view c.self.inside) c.args.sid c.args.n c.args.sent
written c =
    with_parts (table_view c.self.inside) _ _ _ _
    (flow_written c.self.inside.flows.entries c.note_sent.new.self.entries c.args.sid (λ f. with_sent f c.args.sent) (λ f. record f { last_sent = Some c.args.sent })
    c.self.invariant.flows (keys_apart c.self.inside.flows.entries _ c.self.invariant.flows c.self.invariant.sound.rising) (λ f. refl) c.note_sent.ensures.written c.note_sent.ensures.absent)
    c.in_ok-push.ensures.items

accepted : (c : goal.After-note_sent) → table_request_refusal c.args.self.now c.args.sid c.args.n c.args.sent ≡ None
accepted c = sym c.in_default.ensures

pub invariant_of-self-2 : goal.invariant_of-self-2
invariant_of-self-2 c =
    let room : length c.self.inside.waiting.items < most_waiting = (is_asked (table_view c.self.inside) c.args.sid c.args.n c.args.sent (ap (λ (t : Table). table_request_refusal t c.args.sid c.args.n c.args.sent) c.self.view_is ∙ accepted c)).room in
    stored_as _ (request_in_table (table_view c.self.inside) c.args.sid c.args.n c.args.sent)
    (stored_written c.self.inside.flows.entries c.note_sent.new.self.entries c.args.sid (λ f. with_sent f c.args.sent) c.self.invariant.flows
    (λ f e k s. record { key = s.key; due = s.due }) c.note_sent.ensures.written c.note_sent.ensures.absent)
    (let enough = c.self.invariant.enough in let sids = c.note_sent.ensures.sids in omega (arith, enough, sids))
    (noted_sent c.self.inside.dues c.self.inside.flows.entries c.note_sent.new.self.entries c.args.sid c.args.sent c.self.invariant.noted c.note_sent.ensures.written c.note_sent.ensures.absent)
    (written c)
    (sound_requested (table_view c.self.inside) c.args.sid c.args.n c.args.sent c.self.invariant.sound room)
    (ends_written c.self.inside.flows.entries c.note_sent.new.self.entries c.args.sid c.self.inside.first_end (λ f. with_sent f c.args.sent) c.self.invariant.ends (λ f. refl) c.note_sent.ensures.written c.note_sent.ensures.absent)

pub returns-clause-ok : goal.returns-clause-ok
returns-clause-ok c = (accepted c, written c ∙ ap (λ (t : Table). request_in_table t c.args.sid c.args.n c.args.sent) c.self.view_is)
