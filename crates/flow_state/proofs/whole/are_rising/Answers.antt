use Rattle.std.proofs.Common.{◌≡◌, ◌+◌, ◌≤◌, ◌<◌, ◌&&◌, drop, false, true, ltb, sym, ap, ◌∙◌, None, arith, ℕ, List}
use Rattle.std.proofs.Math.ListN.{get_or}
use Rattle.std.proofs.lemmas.List.{drop_more, drop_all}
use Rattle.flow_state.specs.declared.flow.Flow.{Flow}
use Rattle.flow_state.specs.declared.flow.FlowKind.TheVariants.{BestEffort}
use Rattle.flow_state.specs.Changes.{no_lease}
use Rattle.flow_state.specs.Tests.{are_rising}
use Rattle.flow_state.proofs.whole.are_rising.Goals as goal

abbrev blank : Flow
blank = record { lease = no_lease; kind = BestEffort 0; due = 0; last_sent = None }

below : (m n : ℕ) → m < n → ltb m n ≡ true
below m n lt = grind (arith, lt)

not_below : (m n : ℕ) → n ≤ m → ltb m n ≡ false
not_below m n le = grind (arith, le)

pub loop-flow-preserved : goal.loop-flow-preserved
loop-flow-preserved c =
    let xs : List Flow = c.args.flows.now in
    let k : ℕ = c.loop-flow.flow-index in
    c.loop-flow.invariant
    ∙ ap (are_rising c.loop-flow.low) (drop_more xs k blank c.loop-flow-test.true)
    ∙ ap (λ b. b && are_rising (get_or xs k blank).lease.sid (drop (k + 1) xs)) (below c.loop-flow.low (get_or xs k blank).lease.sid c.if-flow-low.false)

pub returns-then-flow-low : goal.returns-then-flow-low
returns-then-flow-low c =
    let xs : List Flow = c.args.flows.now in
    let k : ℕ = c.loop-flow.flow-index in
    sym (
    c.loop-flow.invariant
    ∙ ap (are_rising c.loop-flow.low) (drop_more xs k blank c.loop-flow-test.true)
    ∙ ap (λ b. b && are_rising (get_or xs k blank).lease.sid (drop (k + 1) xs)) (not_below c.loop-flow.low (get_or xs k blank).lease.sid c.if-flow-low.true)
    )

pub returns : goal.returns
returns c = sym (c.loop-flow.invariant ∙ ap (are_rising c.loop-flow.low) (drop_all c.loop-flow.flow-index c.args.flows.now c.loop-flow-test.false))
