use Rattle.std.proofs.Common.{◌≡◌, ◌≤◌, length, take, length-take, ap, sym, ◌∙◌, List, arith, ℕ}
use Rattle.std.proofs.Math.ListN.{get_or}
use Rattle.std.proofs.lemmas.List.{take_more, take_all}
use Rattle.flow_state.specs.Limits.{last_sid}
use Rattle.flow_state.specs.Rows.{Table, Lease}
use Rattle.flow_state.specs.Changes.{no_lease}
use Rattle.flow_state.specs.StoredTable.{with_lease}
use Rattle.flow_state.proofs.Filling.{sid_of_place}
use Rattle.flow_state.proofs.at_channel.put_leases.Goals as goal

pub loop-lease-init : goal.loop-lease-init
loop-lease-init c = ap (λ (ls : List Lease). record c.args.table.now { leases = ls }) c.requires.none

pub put_lease-requires-clause-next : goal.put_lease-requires-clause-next
put_lease-requires-clause-next c =
    let xs : List Lease = c.args.leases.now in
    let i : ℕ = c.loop-lease.lease-index in
    let at = sid_of_place 1 xs i no_lease c.requires.order c.loop-lease-test.true in
    let there : length c.loop-lease.table.leases ≡ length (take i xs) = ap (λ (t : Table). length t.leases) c.loop-lease.invariant in
    let long = length-take i xs in
    omega (arith, at, there, long, c.loop-lease-test.true)

pub put_lease-requires-clause-unicast : goal.put_lease-requires-clause-unicast
put_lease-requires-clause-unicast c =
    let at = sid_of_place 1 c.args.leases.now c.loop-lease.lease-index no_lease c.requires.order c.loop-lease-test.true in
    let few : length c.args.leases.now ≤ last_sid = c.requires.few in
    omega (arith, at, few, c.loop-lease-test.true)

pub loop-lease-preserved : goal.loop-lease-preserved
loop-lease-preserved c =
    let xs : List Lease = c.args.leases.now in
    let i : ℕ = c.loop-lease.lease-index in
    c.in_ok-put_lease.ensures
    ∙ ap (λ (t : Table). with_lease t (get_or xs i no_lease)) c.loop-lease.invariant
    ∙ ap (λ (ls : List Lease). record c.args.table.now { leases = ls }) (sym (take_more xs i no_lease c.loop-lease-test.true))

pub returns : goal.returns
returns c = c.loop-lease.invariant ∙ ap (λ (ls : List Lease). record c.args.table.now { leases = ls }) (take_all c.loop-lease.lease-index c.args.leases.now (omega arith))
