use Rattle.std.proofs.Common.{◌≡◌, arith, length, ap, sym, ◌∙◌, Option, Some, None, refl, is_some}
use Rattle.std.specs.Option.{option_map}
use Rattle.flow_state.specs.declared.flow.Flow.{Flow}
use Rattle.flow_state.specs.Limits.{due_index}
use Rattle.flow_state.specs.Rows.{Table, flow_of}
use Rattle.flow_state.specs.Changes.{due_in_table}
use Rattle.flow_state.specs.StoredTable.{with_next_due}
use Rattle.flow_state.specs.View.{flow_view, table_view}
use Rattle.flow_state.proofs.DueTimes.{due_named}
use Rattle.flow_state.proofs.Soundness.{sound_changed}
use Rattle.flow_state.proofs.Stored.{stored_as, with_parts, stored_written, ends_written, flow_found, flow_written}
use Rattle.flow_state.proofs.Stored.{good_found}
use Rattle.flow_state.proofs.Noted.{noted_due, keys_rise, keys_apart}
use Rattle.flow_state.proofs.table.ChannelTable.set_due.Goals as goal

is_some_map : (o : Option Flow) → is_some o ≡ is_some (option_map flow_view o)
is_some_map (Some f) = refl
is_some_map None = refl

written : (c : goal.After-note_due) → table_view (record { row = c.self.inside.row; leases = c.self.inside.leases; flows = c.note_due.new.self; first_end = c.self.inside.first_end; dues = c.set.new.self; waiting = c.self.inside.waiting }) ≡ due_in_table (table_view c.self.inside) c.args.sid c.args.due
written c =
    with_parts (table_view c.self.inside) _ _ _ _
    (flow_written c.self.inside.flows.entries c.note_due.new.self.entries c.args.sid (λ f. with_next_due f c.args.due) (λ f. record f { index = due_index f.kind c.args.due })
    c.self.invariant.flows (keys_apart c.self.inside.flows.entries _ c.self.invariant.flows c.self.invariant.sound.rising) (λ f. refl) c.note_due.ensures.written c.note_due.ensures.absent)
    refl

pub invariant_of-self : goal.invariant_of-self
invariant_of-self c =
    stored_as _ (due_in_table (table_view c.self.inside) c.args.sid c.args.due)
    (stored_written c.self.inside.flows.entries c.note_due.new.self.entries c.args.sid (λ f. with_next_due f c.args.due) c.self.invariant.flows
    (λ f e k s. record {
      key = s.key;
      due = due_named f.kind c.args.due (good_found c.self.inside.flows.entries c.args.sid f c.self.invariant.sound.kinds e)
          (c.requires (flow_view f) (ap (λ (t : Table). flow_of t c.args.sid) (sym c.self.view_is) ∙ flow_found c.self.inside.flows.entries c.args.sid c.self.invariant.flows ∙ ap (option_map flow_view) e));
    })
    c.note_due.ensures.written c.note_due.ensures.absent)
    (let enough = c.self.invariant.enough in let sids = c.note_due.ensures.sids in omega (arith, enough, sids))
    (noted_due c.self.inside.dues c.set.new.self c.self.inside.flows.entries c.note_due.new.self.entries c.args.sid c.args.due 0 (length (table_view c.self.inside).leases) (keys_rise c.self.inside.flows.entries _ _ c.self.invariant.flows c.self.invariant.sound.rising) c.set.ensures.set c.set.ensures.kept c.self.invariant.noted c.note_due.ensures.written c.note_due.ensures.absent)
    (written c)
    (sound_changed (table_view c.self.inside) c.args.sid (λ f. record f { index = due_index f.kind c.args.due }) (λ f. refl) (λ f. refl) (λ f g. record { lease = g.lease; goes_on = g.goes_on }) c.self.invariant.sound)
    (ends_written c.self.inside.flows.entries c.note_due.new.self.entries c.args.sid c.self.inside.first_end (λ f. with_next_due f c.args.due) c.self.invariant.ends (λ f. refl) c.note_due.ensures.written c.note_due.ensures.absent)

pub returns-clause-found : goal.returns-clause-found
returns-clause-found c =
    c.note_due.ensures.found ∙ is_some_map _ ∙ ap is_some (sym (flow_found c.self.inside.flows.entries c.args.sid c.self.invariant.flows))
    ∙ ap (λ (t : Table). is_some (flow_of t c.args.sid)) c.self.view_is

pub returns-clause-table : goal.returns-clause-table
returns-clause-table c = written c ∙ ap (λ (t : Table). due_in_table t c.args.sid c.args.due) c.self.view_is
