use Rattle.std.proofs.Common.{rules, ◌≡◌, ◌≤◌, length, ap, sym, ◌∙◌, List, ◌∷◌, ◌++◌, [], None, subst, nat_eq, arith}
use Rattle.std.specs.Map.{lookup}
use Rattle.flow_state.specs.Rows.{Table, FlowRow}
use Rattle.flow_state.specs.StoredTable.{IsStoredFlow, EndFrom, AreNoted, with_flow_row}
use Rattle.flow_state.specs.StoredDues.{IsDueFrom}
use Rattle.flow_state.specs.View.{flow_view, table_view}
use Rattle.flow_state.proofs.Filling.{put_range, put_new, put_rows, put_sound, put_stored}
use Rattle.flow_state.proofs.Stored.{Flows, AreStored, rows, stored_as, put_entry, all_put, ends_put}
use Rattle.flow_state.proofs.Noted.{noted_from, noted_put}
use Rattle.flow_state.proofs.table.ChannelTable.put_flow.Goals as goal

pub add-requires-clause-unicast : goal.add-requires-clause-unicast
add-requires-clause-unicast c = let range = put_range c.self.inside c.args.self.now c.self.invariant c.self.view_is c.args.flow c.requires.may c.requires.behind in (range.0, range.2)

pub add-requires-clause-next : goal.add-requires-clause-next
add-requires-clause-next c =
    let range = put_range c.self.inside c.args.self.now c.self.invariant c.self.view_is c.args.flow c.requires.may c.requires.behind in
    let given = range.1 in
    let enough = c.self.invariant.enough in
    let sids = c.reserve.ensures.sids in
    omega (arith, given, enough, sids)

pub add-requires-clause-new : goal.add-requires-clause-new
add-requires-clause-new c =
    subst (λ (es : Flows). lookup (nat_eq c.args.flow.lease.sid) es ≡ None) (sym c.reserve.ensures.kept)
    (put_new c.self.inside c.args.self.now c.self.invariant c.self.view_is c.args.flow c.requires.may c.requires.behind)

flows_after : (c : goal.After-add) → c.add.new.self.entries ≡ put_entry c.args.flow.lease.sid c.args.flow c.self.inside.flows.entries
flows_after c = c.add.ensures.added ∙ ap (put_entry c.args.flow.lease.sid c.args.flow) c.reserve.ensures.kept

put : (c : goal.After-add) → rows c.add.new.self.entries ≡ rows c.self.inside.flows.entries ++ flow_view c.args.flow ∷ []
put c = ap rows (flows_after c) ∙ put_rows c.self.inside c.args.self.now c.self.invariant c.self.view_is c.args.flow c.requires.may c.requires.behind

enough_after : (c : goal.After-add) → length c.self.inside.leases ≤ c.add.new.self.sids
enough_after c =
    let before = c.self.invariant.enough in
    let kept = c.reserve.ensures.sids in
    let sids = c.add.ensures.sids in
    omega (arith, before, kept, sids)

pub invariant_of-self-2 : goal.invariant_of-self-2
invariant_of-self-2 c =
    stored_as _ (with_flow_row (table_view c.self.inside) (flow_view c.args.flow))
    (subst AreStored (sym (flows_after c)) (all_put IsStoredFlow c.args.flow.lease.sid c.args.flow c.self.inside.flows.entries c.self.invariant.flows
    (put_stored c.self.inside c.args.self.now c.self.invariant c.self.view_is c.args.flow c.requires.may c.requires.behind)))
    (enough_after c)
    (subst (AreNoted c.set.new.self) (sym (flows_after c))
    (noted_put c.make_room.new.self c.set.new.self c.args.flow.lease.sid c.args.flow c.self.inside.flows.entries
    (put_new c.self.inside c.args.self.now c.self.invariant c.self.view_is c.args.flow c.requires.may c.requires.behind)
    c.set.ensures.kept
    (λ t. subst (IsDueFrom c.set.new.self c.args.flow.lease.sid) (c.due_from.ensures t) (c.set.ensures.set c.in_ok-make_room.ensures.room))
    (noted_from c.self.inside.dues c.make_room.new.self c.self.inside.flows.entries c.make_room.ensures.kept c.self.invariant.noted)))
    (ap (λ (fs : List FlowRow). record (table_view c.self.inside) { flows = fs }) (put c))
    (put_sound c.self.inside c.args.self.now c.self.invariant c.self.view_is c.args.flow c.requires.may c.requires.behind)
    (let least = c.min-self-inside.ensures in
    subst (EndFrom c.min-self-inside.result) (sym (flows_after c))
    (ends_put c.args.flow.lease.sid c.args.flow c.self.inside.flows.entries c.self.inside.first_end c.min-self-inside.result (grind (arith, least)) (grind (arith, least)) c.self.invariant.ends))

pub returns : goal.returns
returns c = ap (λ (fs : List FlowRow). record (table_view c.self.inside) { flows = fs }) (put c) ∙ ap (λ (t : Table). with_flow_row t (flow_view c.args.flow)) c.self.view_is

-- where there is no room
pub invariant_of-self-in_err-make_room : goal.invariant_of-self-in_err-make_room
invariant_of-self-in_err-make_room c =
    stored_as _ (table_view c.self.inside)
    (subst AreStored (sym c.reserve.ensures.kept) c.self.invariant.flows)
    (let before = c.self.invariant.enough in let sids = c.reserve.ensures.sids in omega (arith, before, sids))
    (subst (AreNoted c.make_room.new.self) (sym c.reserve.ensures.kept) (noted_from c.self.inside.dues c.make_room.new.self c.self.inside.flows.entries c.make_room.ensures.kept c.self.invariant.noted))
    (search rules)
    c.self.invariant.sound
    (subst (EndFrom c.self.inside.first_end) (sym c.reserve.ensures.kept) c.self.invariant.ends)
