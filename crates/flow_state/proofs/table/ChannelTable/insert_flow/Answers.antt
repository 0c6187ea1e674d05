use Rattle.std.proofs.Common.{rules, ◌≡◌, ◌≤◌, ◌+◌, length, ap, sym, ◌∙◌, List, None, subst, nat_eq, arith}
use Rattle.std.specs.Map.{lookup}
use Rattle.flow_state.specs.declared.flow.Flow.{Flow}
use Rattle.flow_state.specs.Limits.{is_timed}
use Rattle.flow_state.specs.Rows.{Table, Lease, free_sid}
use Rattle.flow_state.specs.Changes.{add_to_table}
use Rattle.flow_state.specs.StoredTable.{IsStoredFlow, EndFrom, AreNoted}
use Rattle.flow_state.specs.StoredDues.{IsDueFrom}
use Rattle.flow_state.specs.View.{table_view}
use Rattle.flow_state.proofs.Freed.{free_most, most_put}
use Rattle.flow_state.proofs.Soundness.{none_free, sound_added}
use Rattle.flow_state.proofs.Stored.{Flows, AreStored, rows, stored_as, as_added, put_entry, none_found, all_put}
use Rattle.flow_state.proofs.Stored.{stored_added, rows_added, ends_put, same_table}
use Rattle.flow_state.proofs.Noted.{noted_from, noted_put}
use Rattle.flow_state.proofs.Wells.{free_range}
use Rattle.flow_state.proofs.table.ChannelTable.insert_flow.Goals as goal

pub put-requires-clause-some : goal.put-requires-clause-some
put-requires-clause-some c = (free_range (table_view c.self.inside) c.args.lease.sid (ap free_sid c.self.view_is ∙ c.requires.free)).0

pub put-requires-clause-unicast : goal.put-requires-clause-unicast
put-requires-clause-unicast c = let range = free_range (table_view c.self.inside) c.args.lease.sid (ap free_sid c.self.view_is ∙ c.requires.free) in omega (arith, range.1)

pub put-requires-clause-next : goal.put-requires-clause-next
put-requires-clause-next c = free_most (table_view c.self.inside) c.args.lease.sid c.self.invariant.sound.given c.self.invariant.sound.few (ap free_sid c.self.view_is ∙ c.requires.free)

pub add-requires-clause-unicast : goal.add-requires-clause-unicast
add-requires-clause-unicast c = let range = free_range (table_view c.self.inside) c.args.lease.sid (ap free_sid c.self.view_is ∙ c.requires.free) in (range.0, omega (arith, range.1))

pub add-requires-clause-next : goal.add-requires-clause-next
add-requires-clause-next c =
    let most : c.args.lease.sid ≤ length (table_view c.self.inside).leases + 1 = free_most (table_view c.self.inside) c.args.lease.sid c.self.invariant.sound.given c.self.invariant.sound.few (ap free_sid c.self.view_is ∙ c.requires.free) in
    let enough = c.self.invariant.enough in
    let sids = c.reserve.ensures.sids in
    omega (arith, most, enough, sids)

pub add-requires-clause-new : goal.add-requires-clause-new
add-requires-clause-new c =
    subst (λ (es : Flows). lookup (nat_eq c.args.lease.sid) es ≡ None) (sym c.reserve.ensures.kept)
    (none_found c.self.inside.flows.entries c.args.lease.sid c.self.invariant.flows (none_free (table_view c.self.inside) c.args.lease.sid c.self.invariant.sound (ap free_sid c.self.view_is ∙ c.requires.free)))

-- each SID that was given has a place
enough : (c : goal.After-add) → length c.put.new.self ≤ c.add.new.self.sids
enough c =
    let free = ap free_sid c.self.view_is ∙ c.requires.free in
    let range = free_range (table_view c.self.inside) c.args.lease.sid free in
    let next : c.args.lease.sid ≤ length (table_view c.self.inside).leases + 1 = free_most (table_view c.self.inside) c.args.lease.sid c.self.invariant.sound.given c.self.invariant.sound.few free in
    let sids = c.add.ensures.sids in
    let kept = c.reserve.ensures.sids in
    let before = c.self.invariant.enough in
    subst (λ (ls : List Lease). length ls ≤ c.add.new.self.sids) (sym c.in_ok-put.ensures.ok)
    (most_put c.args.lease c.self.inside.leases c.self.invariant.sound.given range.0 next c.add.new.self.sids (omega (arith, sids, kept, before)) (omega (arith, sids, kept, before)))

flows_after : (c : goal.After-add) → c.add.new.self.entries ≡ put_entry c.args.lease.sid (as_added c.args.lease c.args.kind) c.self.inside.flows.entries
flows_after c =
    c.add.ensures.added ∙ ap (put_entry c.args.lease.sid c.new-flow.result) c.reserve.ensures.kept
    ∙ ap (λ (f : Flow). put_entry c.args.lease.sid f c.self.inside.flows.entries) c.new-flow.ensures

added : (c : goal.After-add) → table_view (record { row = c.self.inside.row; leases = c.put.new.self; flows = c.add.new.self; first_end = c.min-self-inside.result; dues = c.set.new.self; waiting = c.self.inside.waiting })
    ≡ add_to_table (table_view c.self.inside) c.args.lease c.args.kind
added c =
    same_table (table_view c.self.inside) _ _ _ _ c.in_ok-put.ensures.ok
    (ap rows (flows_after c) ∙ rows_added c.self.inside.flows.entries c.args.lease c.args.kind c.self.invariant.flows c.requires.good)

pub invariant_of-self-2 : goal.invariant_of-self-2
invariant_of-self-2 c =
    let start : c.self.inside.row.next_start ≡ c.args.self.now.row.next_start = ap (λ (t : Table). t.row.next_start) c.self.view_is in
    let later : c.args.self.now.row.next_start ≤ c.args.lease.last = c.requires.goes_on in
    stored_as _ (add_to_table (table_view c.self.inside) c.args.lease c.args.kind)
    (subst AreStored (sym (flows_after c)) (all_put IsStoredFlow c.args.lease.sid (as_added c.args.lease c.args.kind) c.self.inside.flows.entries c.self.invariant.flows (stored_added c.args.lease c.args.kind c.requires.good)))
    (enough c)
    (subst (AreNoted c.set.new.self) (sym (flows_after c))
    (noted_put c.make_room.new.self c.set.new.self c.args.lease.sid (as_added c.args.lease c.args.kind) c.self.inside.flows.entries
    (none_found c.self.inside.flows.entries c.args.lease.sid c.self.invariant.flows (none_free (table_view c.self.inside) c.args.lease.sid c.self.invariant.sound (ap free_sid c.self.view_is ∙ c.requires.free)))
    c.set.ensures.kept
    (λ t. subst (IsDueFrom c.set.new.self c.args.lease.sid) (c.due_from.ensures (ap (λ (f : Flow). is_timed f.kind) c.new-flow.ensures ∙ t) ∙ ap (λ (f : Flow). f.due) c.new-flow.ensures) (c.set.ensures.set c.in_ok-make_room.ensures.room))
    (noted_from c.self.inside.dues c.make_room.new.self c.self.inside.flows.entries c.make_room.ensures.kept c.self.invariant.noted)))
    (added c)
    (sound_added (table_view c.self.inside) c.args.lease c.args.kind c.self.invariant.sound c.requires.good (ap free_sid c.self.view_is ∙ c.requires.free) (omega arith))
    (let least = c.min-self-inside.ensures in
    subst (EndFrom c.min-self-inside.result) (sym (flows_after c))
    (ends_put c.args.lease.sid (as_added c.args.lease c.args.kind) c.self.inside.flows.entries c.self.inside.first_end c.min-self-inside.result (grind (arith, least)) (grind (arith, least)) c.self.invariant.ends))

pub returns-clause-ok : goal.returns-clause-ok
returns-clause-ok c = added c ∙ ap (λ (t : Table). add_to_table t c.args.lease c.args.kind) c.self.view_is

-- where there is no room
pub invariant_of-self-in_err-make_room : goal.invariant_of-self-in_err-make_room
invariant_of-self-in_err-make_room c =
    stored_as _ (table_view c.self.inside)
    (subst AreStored (sym c.reserve.ensures.kept) c.self.invariant.flows)
    (let before = c.self.invariant.enough in let sids = c.reserve.ensures.sids in omega (arith, before, sids))
    (subst (AreNoted c.make_room.new.self) (sym c.reserve.ensures.kept) (noted_from c.self.inside.dues c.make_room.new.self c.self.inside.flows.entries c.make_room.ensures.kept c.self.invariant.noted))
    (search rules)
    c.self.invariant.sound
    (subst (EndFrom c.self.inside.first_end) (sym c.reserve.ensures.kept) c.self.invariant.ends)

pub invariant_of-self-in_err-put : goal.invariant_of-self-in_err-put
invariant_of-self-in_err-put c =
    stored_as _ (table_view c.self.inside)
    (subst AreStored (sym c.reserve.ensures.kept) c.self.invariant.flows)
    (let before = c.self.invariant.enough in let sids = c.reserve.ensures.sids in subst (λ (ls : List Lease). length ls ≤ c.reserve.new.self.sids) (sym c.in_err-put.ensures.err) (omega (arith, before, sids)))
    (subst (AreNoted c.make_room.new.self) (sym c.reserve.ensures.kept) (noted_from c.self.inside.dues c.make_room.new.self c.self.inside.flows.entries c.make_room.ensures.kept c.self.invariant.noted))
    (search rules)
    c.self.invariant.sound
    (subst (EndFrom c.self.inside.first_end) (sym c.reserve.ensures.kept) c.self.invariant.ends)
