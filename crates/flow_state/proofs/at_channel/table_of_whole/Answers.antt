use Rattle.std.proofs.Common.{◌≡◌, ◌≤◌, List, length, map, ap, sym, subst, ◌∙◌}
use Rattle.std.specs.List.{AllByRecursion, range_with_len}
use Rattle.flow_state.specs.declared.flow.Flow.{Flow}
use Rattle.flow_state.specs.declared.flow.Waiting.{Waiting}
use Rattle.flow_state.specs.Firm.{RisingFrom}
use Rattle.flow_state.specs.Limits.{last_sid, most_waiting}
use Rattle.flow_state.specs.Rows.{Table, Lease}
use Rattle.flow_state.specs.StoredTable.{MayBePut}
use Rattle.flow_state.specs.View.{flow_view}
use Rattle.flow_state.proofs.Firmness.{firm_is, may_all}
use Rattle.flow_state.proofs.at_channel.table_of_whole.Goals as goal

pub put_leases-requires-clause-order : goal.put_leases-requires-clause-order
put_leases-requires-clause-order c =
    subst (λ (ls : List Lease). map (λ (l : Lease). l.sid) ls ≡ range_with_len 1 (length ls)) (sym c.deref.ensures.value) (firm_is c.args.whole.now c.requires.fits c.requires.firm).0.well.order

pub put_leases-requires-clause-few : goal.put_leases-requires-clause-few
put_leases-requires-clause-few c = subst (λ (ls : List Lease). length ls ≤ last_sid) (sym c.deref.ensures.value) (firm_is c.args.whole.now c.requires.fits c.requires.firm).0.well.sids

pub put_flows-requires-clause-rising : goal.put_flows-requires-clause-rising
put_flows-requires-clause-rising c = subst (λ (fs : List Flow). RisingFrom 1 (map flow_view fs)) (sym c.deref-2.ensures.value) (firm_is c.args.whole.now c.requires.fits c.requires.firm).0.well.rising

pub put_flows-requires-clause-stored : goal.put_flows-requires-clause-stored
put_flows-requires-clause-stored c =
    let firm = firm_is c.args.whole.now c.requires.fits c.requires.firm in
    subst (λ (fs : List Flow). AllByRecursion (MayBePut c.put_leases.new.table) fs) (sym c.deref-2.ensures.value)
    (may_all c.args.whole.now firm.0 firm.1 c.put_leases.new.table
    (ap (λ (t : Table). t.row) c.in_ok-put_leases.ensures ∙ ap (λ (t : Table). t.row) c.of_row-table.ensures)
    (ap (λ (t : Table). t.leases) c.in_ok-put_leases.ensures ∙ c.deref.ensures.value))

pub put_requests-requires-clause-few : goal.put_requests-requires-clause-few
put_requests-requires-clause-few c = subst (λ (ws : List Waiting). length ws ≤ most_waiting) (sym c.deref-3.ensures.value) (firm_is c.args.whole.now c.requires.fits c.requires.firm).0.well.few
