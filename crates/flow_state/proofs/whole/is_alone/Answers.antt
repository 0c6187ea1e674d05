use Rattle.std.proofs.Common.{length-take, take, eqb, eq-eqb, leb, ap, ◌∙◌, arith, ℕ, List}
use Rattle.std.specs.List.{count_by}
use Rattle.std.proofs.Math.ListN.{get_or}
use Rattle.std.proofs.lemmas.Bool.{eqb-true, false_from_ne_true}
use Rattle.std.proofs.lemmas.List.{take_all}
use Rattle.std.proofs.lemmas.List.Sums.{count_by-le-length, count_by_more_yes, count_by_more_no}
use Rattle.flow_state.specs.declared.flow.Waiting.{Waiting}
use Rattle.flow_state.specs.Rows.{is_of}
use Rattle.flow_state.proofs.whole.is_alone.Goals as goal
use Rattle.flow_state.proofs.whole.is_alone.Goals.{then-other-request, else-other-request}

abbrev blank : Waiting
blank = record { sid = 0; n = 0; sent = 0 }

pub overflow_add-found : goal.overflow_add-found
overflow_add-found c =
    let i : ℕ = c.loop-other.other-index in
    let found = c.loop-other.invariant in
    let most = count_by-le-length (is_of c.args.request.now.sid) (take i c.args.requests.now) in
    let long = length-take i c.args.requests.now in
    let lt = c.loop-other-test.true in
    omega (arith, found, most, long, lt)

pub loop-other-preserved : goal.loop-other-preserved
loop-other-preserved c =
    let xs : List Waiting = c.args.requests.now in
    let i : ℕ = c.loop-other.other-index in
    let found = c.loop-other.invariant in
    elim c.if-other-request.branch [
      | then-other-request w ↦
          let more = count_by_more_yes (is_of c.args.request.now.sid) xs i blank c.loop-other-test.true (eq-eqb (get_or xs i blank).sid c.args.request.now.sid w.if-other-request.true) in
          let is = w.found-is in
          omega (arith, found, more, is)
      | else-other-request w ↦
          let same = count_by_more_no (is_of c.args.request.now.sid) xs i blank c.loop-other-test.true (false_from_ne_true (eqb (get_or xs i blank).sid c.args.request.now.sid) (λ e. w.if-other-request.false (eqb-true _ _ e))) in
          let is = w.found-is in
          omega (arith, found, same, is)
    ]

pub returns : goal.returns
returns c = ap (λ n. leb n 1) (c.loop-other.invariant ∙ ap (count_by (is_of c.args.request.now.sid)) (take_all c.loop-other.other-index c.args.requests.now c.loop-other-test.false))
