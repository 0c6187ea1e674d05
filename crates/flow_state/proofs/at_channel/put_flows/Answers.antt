use Rattle.std.proofs.Common.{◌<◌, ◌∷◌, [], map, take, ap, sym, subst, ◌∙◌, List, None, arith, ℕ}
use Rattle.std.specs.List.{AllByRecursion}
use Rattle.std.proofs.Math.ListN.{get_or}
use Rattle.std.proofs.lemmas.List.{take_more, take_all, map-append}
use Rattle.flow_state.specs.declared.flow.Flow.{Flow}
use Rattle.flow_state.specs.declared.flow.FlowKind.TheVariants.{BestEffort}
use Rattle.flow_state.specs.Rows.{Table, FlowRow}
use Rattle.flow_state.specs.Changes.{no_lease}
use Rattle.flow_state.specs.StoredTable.{MayBePut, with_flow_row}
use Rattle.flow_state.specs.View.{flow_view}
use Rattle.flow_state.proofs.Filling.{rising_before, may_be_put, all_at}
use Rattle.flow_state.proofs.at_channel.put_flows.Goals as goal

abbrev blank : Flow
blank = record { lease = no_lease; kind = BestEffort 0; due = 0; last_sent = None }

pub loop-flow-init : goal.loop-flow-init
loop-flow-init c = ap (λ (fs : List FlowRow). record c.args.table.now { flows = fs }) c.requires.none

pub put_flow-requires-clause-may : goal.put_flow-requires-clause-may
put_flow-requires-clause-may c =
    let xs : List Flow = c.args.flows.now in
    let i : ℕ = c.loop-flow.flow-index in
    subst (λ (t : Table). MayBePut t (get_or xs i blank)) (sym c.loop-flow.invariant)
    (may_be_put c.args.table.now (map flow_view (take i xs)) (get_or xs i blank) (all_at (MayBePut c.args.table.now) xs i blank c.requires.stored c.loop-flow-test.true))

pub put_flow-requires-clause-behind : goal.put_flow-requires-clause-behind
put_flow-requires-clause-behind c =
    let xs : List Flow = c.args.flows.now in
    let i : ℕ = c.loop-flow.flow-index in
    subst (λ (t : Table). AllByRecursion (λ (g : FlowRow). g.sid < (get_or xs i blank).lease.sid) t.flows) (sym c.loop-flow.invariant)
    (rising_before 1 xs i blank c.requires.rising c.loop-flow-test.true)

pub loop-flow-preserved : goal.loop-flow-preserved
loop-flow-preserved c =
    let xs : List Flow = c.args.flows.now in
    let i : ℕ = c.loop-flow.flow-index in
    c.in_ok-put_flow.ensures
    ∙ ap (λ (t : Table). with_flow_row t (flow_view (get_or xs i blank))) c.loop-flow.invariant
    ∙ ap (λ (fs : List FlowRow). record c.args.table.now { flows = fs }) (sym (map-append flow_view (take i xs) (get_or xs i blank ∷ [])))
    ∙ ap (λ (fs : List Flow). record c.args.table.now { flows = map flow_view fs }) (sym (take_more xs i blank c.loop-flow-test.true))

pub returns : goal.returns
returns c = c.loop-flow.invariant ∙ ap (λ (fs : List Flow). record c.args.table.now { flows = map flow_view fs }) (take_all c.loop-flow.flow-index c.args.flows.now (omega arith))
