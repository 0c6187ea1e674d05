use Rattle.std.proofs.Common.{◌+◌, ◌&&◌, drop, eqb, eq-eqb, sym, ap, ◌∙◌, ℕ, List}
use Rattle.std.proofs.Math.ListN.{get_or}
use Rattle.std.proofs.lemmas.Bool.{eqb-true, false_from_ne_true}
use Rattle.std.proofs.lemmas.List.{drop_more, drop_all}
use Rattle.flow_state.specs.Rows.{Lease}
use Rattle.flow_state.specs.Changes.{no_lease}
use Rattle.flow_state.specs.Tests.{are_in_order}
use Rattle.flow_state.proofs.whole.are_in_order.Goals as goal

pub loop-place-preserved : goal.loop-place-preserved
loop-place-preserved c =
    let xs : List Lease = c.args.leases.now in
    let k : ℕ = c.loop-place.place in
    c.loop-place.invariant
    ∙ ap (are_in_order (k + 1)) (drop_more xs k no_lease c.loop-place-test.true)
    ∙ ap (λ b. b && are_in_order (k + 1 + 1) (drop (k + 1) xs)) (eq-eqb (get_or xs k no_lease).sid (k + 1) (sym c.from.ensures ∙ c.if-from-place.false))

pub returns-then-from-place : goal.returns-then-from-place
returns-then-from-place c =
    let xs : List Lease = c.args.leases.now in
    let k : ℕ = c.loop-place.place in
    sym (
    c.loop-place.invariant
    ∙ ap (are_in_order (k + 1)) (drop_more xs k no_lease c.loop-place-test.true)
    ∙ ap (λ b. b && are_in_order (k + 1 + 1) (drop (k + 1) xs))
    (false_from_ne_true (eqb (get_or xs k no_lease).sid (k + 1)) (λ e. c.if-from-place.true (c.from.ensures ∙ eqb-true (get_or xs k no_lease).sid (k + 1) e)))
    )

pub returns : goal.returns
returns c = sym (c.loop-place.invariant ∙ ap (are_in_order (c.loop-place.place + 1)) (drop_all c.loop-place.place c.args.leases.now c.loop-place-test.false))
