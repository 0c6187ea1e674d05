use Rattle.std.proofs.Common.{rules, arith, Bool, true, false, is_some, nat_eq, ℕ, length, ◌≡◌, ◌≤◌, ap, sym, subst}
use Rattle.std.proofs.Common.{◌∙◌, not, Option, Some, None, refl, is_none, if◌then◌else◌}
use Rattle.std.specs.List.{filter, find}
use Rattle.std.specs.Map.{lookup}
use Rattle.std.specs.Option.{option_map}
use Rattle.std.proofs.lemmas.Fn.{filter_same}
use Rattle.flow_state.specs.declared.flow.Flow.{Flow}
use Rattle.flow_state.specs.declared.refusal.Refusal.TheVariants.{NoFlow}
use Rattle.flow_state.specs.Rows.{Table, FlowRow, is_of, is_flow}
use Rattle.flow_state.specs.Refusals.{table_drop_refusal}
use Rattle.flow_state.specs.Changes.{drop_in_table}
use Rattle.flow_state.specs.StoredTable.{IsStoredFlow, EndFrom, AreNoted}
use Rattle.flow_state.specs.View.{flow_view, table_view}
use Rattle.flow_state.proofs.BySid.{unfound_kept}
use Rattle.flow_state.proofs.Keyed.{All-remove_entry}
use Rattle.flow_state.proofs.Soundness.{sound_dropped}
use Rattle.flow_state.proofs.Stored.{Flows, AreStored, rows, stored_as, with_parts, flow_found, flow_removed}
use Rattle.flow_state.proofs.Noted.{noted_removed, keys_rise, keys_apart}
use Rattle.flow_state.proofs.table.ChannelTable.drop_flow.Goals as goal

none_of : (o : Option Flow) → false ≡ is_some o → o ≡ None
none_of (Some f) h = absurd cc
none_of None h = refl

-- what the flow's entry says of the refusal
refusal_is : (t u : Table) (es : Flows) (sid : ℕ) (b : Bool) → t ≡ u → find (is_flow sid) t.flows ≡ option_map flow_view (lookup (nat_eq sid) es) → b ≡ is_some (lookup (nat_eq sid) es) → table_drop_refusal u sid ≡ (if b then None else Some NoFlow)
refusal_is t u es sid b same found is =
    ap (λ (v : Table). table_drop_refusal v sid) (sym same) ∙ ap (λ (o : Option FlowRow). if is_none o then Some NoFlow else None) found ∙ by (lookup (nat_eq sid) es) ∙ ap (λ c. if c then None else Some NoFlow) (sym is)
  where
    by : (o : Option Flow) → (if is_none (option_map flow_view o) then Some NoFlow else None) ≡ (if is_some o then None else Some NoFlow)
    by (Some f) = refl
    by None = refl

dropped : (c : goal.After-retain) → table_view (record { row = c.self.inside.row; leases = c.self.inside.leases; flows = c.remove.new.self; first_end = c.self.inside.first_end; dues = c.forget.new.self; waiting = c.retain.new.self }) ≡ drop_in_table (table_view c.self.inside) c.args.sid
dropped c =
    let kept : c.retain.new.self.items ≡ filter (λ w. not (is_of c.args.sid w)) c.self.inside.waiting.items = filter_same _ (λ w. not (is_of c.args.sid w)) _ (λ x b f k. search rules) _ _ c.retain.ensures.filtered in
    with_parts (table_view c.self.inside) _ _ _ _ (ap rows c.remove.ensures.removed ∙ flow_removed c.self.inside.flows.entries c.args.sid c.self.invariant.flows (keys_apart c.self.inside.flows.entries _ c.self.invariant.flows c.self.invariant.sound.rising)) kept

pub invariant_of-self-2 : goal.invariant_of-self-2
invariant_of-self-2 c =
    stored_as _ (drop_in_table (table_view c.self.inside) c.args.sid)
    (subst AreStored (sym c.remove.ensures.removed) (All-remove_entry IsStoredFlow c.self.inside.flows.entries c.args.sid c.self.invariant.flows))
    (let enough = c.self.invariant.enough in let sids = c.remove.ensures.sids in omega (arith, enough, sids))
    (subst (AreNoted c.forget.new.self) (sym c.remove.ensures.removed) (noted_removed c.self.inside.dues c.forget.new.self c.self.inside.flows.entries c.args.sid 0 (length (table_view c.self.inside).leases) (keys_rise c.self.inside.flows.entries _ _ c.self.invariant.flows c.self.invariant.sound.rising) c.forget.ensures c.self.invariant.noted))
    (dropped c)
    (sound_dropped (table_view c.self.inside) c.args.sid c.self.invariant.sound)
    (subst (EndFrom c.self.inside.first_end) (sym c.remove.ensures.removed) (All-remove_entry (λ e. c.self.inside.first_end ≤ e.1.lease.last) c.self.inside.flows.entries c.args.sid c.self.invariant.ends))

-- where the SID has no flow
same : (c : goal.Then-not-remove) → c.remove.new.self.entries ≡ c.self.inside.flows.entries
same c = c.remove.ensures.removed ∙ unfound_kept c.self.inside.flows.entries c.args.sid (none_of _ (sym c.if-not-remove.true ∙ c.remove.ensures.found))

pub invariant_of-self : goal.invariant_of-self
invariant_of-self c =
    stored_as _ (table_view c.self.inside)
    (subst AreStored (sym (same c)) c.self.invariant.flows)
    (let enough = c.self.invariant.enough in let sids = c.remove.ensures.sids in omega (arith, enough, sids))
    (subst (AreNoted c.self.inside.dues) (sym (same c)) c.self.invariant.noted)
    (with_parts (table_view c.self.inside) _ _ _ _ (ap rows (same c)) refl)
    c.self.invariant.sound
    (subst (EndFrom c.self.inside.first_end) (sym (same c)) c.self.invariant.ends)

pub returns-then-not-remove-clause-err : goal.returns-then-not-remove-clause-err
returns-then-not-remove-clause-err c = (
  refusal_is _ _ c.self.inside.flows.entries c.args.sid false c.self.view_is (flow_found c.self.inside.flows.entries c.args.sid c.self.invariant.flows) (sym c.if-not-remove.true ∙ c.remove.ensures.found),
  with_parts (table_view c.self.inside) _ _ _ _ (ap rows (same c)) refl ∙ c.self.view_is,
)

pub returns-clause-ok : goal.returns-clause-ok
returns-clause-ok c = (
  refusal_is _ _ c.self.inside.flows.entries c.args.sid true c.self.view_is (flow_found c.self.inside.flows.entries c.args.sid c.self.invariant.flows) (sym c.if-not-remove.false ∙ c.remove.ensures.found),
  dropped c ∙ ap (λ (t : Table). drop_in_table t c.args.sid) c.self.view_is,
)
