use Rattle.std.proofs.Common.{◌≡◌, ◌<◌, ◌≤◌, ◌-◌, List, length, take, drop, Some, None, cond, sym, ap, ◌∙◌, arith}
use Rattle.std.proofs.lemmas.Bool.{lt-ltb, le-ltb}
use Rattle.std.proofs.lemmas.List.{take_rest}
use Rattle.grant_machine_parts.specs.Placing.{is_free}
use Rattle.grant_machine_parts.specs.Gaps.{Gap, gap_in}
use Rattle.grant_machine_parts.proofs.Carved.{AreInTime, in_time, fit_found, none_found}
use Rattle.grant_machine_parts.proofs.Splits.{passed_over}
use Rattle.grant_machine_parts.proofs.gaps.first_fit.Goals as goal

pub returns-then-first-behind : goal.returns-then-first-behind
returns-then-first-behind c = λ ps are.
    let l = c.from-len.ensures in
    let a = c.saturating_sub.ensures in
    let b = c.min-first.ensures in
    let most = c.behind_latest-behind.ensures.most in
    let timely : AreInTime c.args.start c.args.len ps c.args.n c.args.lo c.args.hi c.args.last c.min-first.result c.behind_latest-behind.result =
    in_time c.args.start c.args.len ps c.args.n c.args.lo c.args.hi c.args.last c.min-first.result c.behind_latest-behind.result (omega arith) (omega arith) c.behind_latest-behind.ensures.in_time (λ y ge lt. c.behind_latest-behind.ensures.late y ge (omega arith)) in
    let none : c.args.n ≡ 0 = omega arith in
    let lt : c.min-first.result < c.behind_latest-behind.result = omega arith in
    sym (none_found c.args.start c.args.len ps c.args.n c.args.lo c.args.hi c.args.last c.min-first.result c.behind_latest-behind.result timely none ∙ ap (λ b. cond b (Some c.min-first.result) None) (lt-ltb c.min-first.result c.behind_latest-behind.result lt))

pub returns-else-first-behind : goal.returns-else-first-behind
returns-else-first-behind c = λ ps are.
    let l = c.from-len.ensures in
    let a = c.saturating_sub.ensures in
    let b = c.min-first.ensures in
    let most = c.behind_latest-behind.ensures.most in
    let timely : AreInTime c.args.start c.args.len ps c.args.n c.args.lo c.args.hi c.args.last c.min-first.result c.behind_latest-behind.result =
    in_time c.args.start c.args.len ps c.args.n c.args.lo c.args.hi c.args.last c.min-first.result c.behind_latest-behind.result (omega arith) (omega arith) c.behind_latest-behind.ensures.in_time (λ y ge lt. c.behind_latest-behind.ensures.late y ge (omega arith)) in
    let none : c.args.n ≡ 0 = omega arith in
    let le : c.behind_latest-behind.result ≤ c.min-first.result = omega arith in
    sym (none_found c.args.start c.args.len ps c.args.n c.args.lo c.args.hi c.args.last c.min-first.result c.behind_latest-behind.result timely none ∙ ap (λ b. cond b (Some c.min-first.result) None) (le-ltb c.min-first.result c.behind_latest-behind.result le))

pub returns-in-Some : goal.returns-in-Some
returns-in-Some c = λ ps are.
    let l = c.from-len.ensures in
    let a = c.saturating_sub.ensures in
    let b = c.min-first.ensures in
    let most = c.behind_latest-behind.ensures.most in
    let timely : AreInTime c.args.start c.args.len ps c.args.n c.args.lo c.args.hi c.args.last c.min-first.result c.behind_latest-behind.result =
    in_time c.args.start c.args.len ps c.args.n c.args.lo c.args.hi c.args.last c.min-first.result c.behind_latest-behind.result (omega arith) (omega arith) c.behind_latest-behind.ensures.in_time (λ y ge lt. c.behind_latest-behind.ensures.late y ge (omega arith)) in
    let some : 1 ≤ c.args.n = omega arith in
    let gs = c.args.gaps.now in
    let k = c.count_before-passed.result in
    let first = c.min-first.result in
    let behind = c.behind_latest-behind.result in
    let over : gap_in (take (length gs - k) (drop k gs)) c.args.n first behind ≡ gap_in gs c.args.n first behind =
    ap (λ (xs : List Gap). gap_in xs c.args.n first behind) (take_rest gs k)
    ∙ passed_over (is_free ps) 0 c.args.len gs c.args.n first behind k are some c.count_before-passed.ensures.most c.count_before-passed.ensures.passed in
    c.in-Some.ensures ∙ ap (λ m. gap_in (take (length gs - k) (drop k gs)) m first behind) c.from.ensures ∙ over ∙ fit_found c.args.start c.args.len ps c.args.n c.args.lo c.args.hi c.args.last c.min-first.result c.behind_latest-behind.result timely some c.args.gaps.now are

pub returns-in-None : goal.returns-in-None
returns-in-None c = λ ps are.
    let l = c.from-len.ensures in
    let a = c.saturating_sub.ensures in
    let b = c.min-first.ensures in
    let most = c.behind_latest-behind.ensures.most in
    let timely : AreInTime c.args.start c.args.len ps c.args.n c.args.lo c.args.hi c.args.last c.min-first.result c.behind_latest-behind.result =
    in_time c.args.start c.args.len ps c.args.n c.args.lo c.args.hi c.args.last c.min-first.result c.behind_latest-behind.result (omega arith) (omega arith) c.behind_latest-behind.ensures.in_time (λ y ge lt. c.behind_latest-behind.ensures.late y ge (omega arith)) in
    let some : 1 ≤ c.args.n = omega arith in
    let gs = c.args.gaps.now in
    let k = c.count_before-passed.result in
    let first = c.min-first.result in
    let behind = c.behind_latest-behind.result in
    let over : gap_in (take (length gs - k) (drop k gs)) c.args.n first behind ≡ gap_in gs c.args.n first behind =
    ap (λ (xs : List Gap). gap_in xs c.args.n first behind) (take_rest gs k)
    ∙ passed_over (is_free ps) 0 c.args.len gs c.args.n first behind k are some c.count_before-passed.ensures.most c.count_before-passed.ensures.passed in
    c.in-None.ensures ∙ ap (λ m. gap_in (take (length gs - k) (drop k gs)) m first behind) c.from.ensures ∙ over ∙ fit_found c.args.start c.args.len ps c.args.n c.args.lo c.args.hi c.args.last c.min-first.result c.behind_latest-behind.result timely some c.args.gaps.now are
