use Rattle.std.proofs.Common.{arith, ◌≡◌, ◌<◌, inr, refl, sym, subst, rules, ◌∙◌, Some, None, Err, IfErr}
use Rattle.acceptor.specs.Answers.{MayHavePromised}
use Rattle.acceptor.specs.Content.{Content, promised}
use Rattle.acceptor.specs.Content.Write.{Promises}
use Rattle.acceptor.specs.Found.{Holds, FindsSame}
use Rattle.acceptor.specs.Faults.{IsHarmless}
use Rattle.acceptor.proofs.Certain.{same_then, still_holds, on_err}
use Rattle.acceptor.proofs.acceptor.prepare.Goals as goal

pub returns-in-Some-clause-ok : goal.returns-in-Some-clause-ok
returns-in-Some-clause-ok g c honest d holds =
    let read = c.in_ok-promised.ensures.value honest d holds in
    let some = c.in-Some.ensures.some in
    (None, (omega (arith, some.0, some.1, read), some.1 ∙ read, refl), still_holds _ _ d (c.in_ok-promised.ensures.kept honest) holds)

pub returns-in_err-put_promised-clause-doubt : goal.returns-in_err-put_promised-clause-doubt
returns-in_err-put_promised-clause-doubt g c honest =
    let found = g.R.Records.may_find c.put_promised.new.self in
    let all : (d : Content) → Holds (g.R.Records.may_find c.args.records.now) d → MayHavePromised d c.args.ballot found = λ d holds.
    let before = c.put_promised.ensures.trust.honest honest in
    let first = c.votes_from.ensures.trust.honest before in
    let read = c.in_ok-promised.ensures.value first d holds in
    let below : promised d < c.args.ballot = rw read at c.in_default.ensures.none in
    let mid = still_holds _ _ d (c.in_ok-promised.ensures.kept first) holds in
    inr (below, (c.put_promised.ensures.writes honest).doubt d (still_holds _ _ d (c.in_ok-votes.ensures.kept before) mid)) in
    on_err _ all

pub returns-in_err-put_promised-clause-harmless : goal.returns-in_err-put_promised-clause-harmless
returns-in_err-put_promised-clause-harmless g c honest =
    let before = c.put_promised.ensures.trust.honest honest in
    let first = c.votes_from.ensures.trust.honest before in
    let same = same_then _ _ _ (c.in_ok-promised.ensures.kept first) (c.in_ok-votes.ensures.kept before) in
    let is : c.from_residual-in_err-put_promised.result ≡ Err c.in_err-put_promised.field-0.0 = search rules in
    subst (λ r. IfErr r (λ e. IsHarmless e → FindsSame (g.R.Records.may_find c.args.records.now) (g.R.Records.may_find c.put_promised.new.self))) (sym is) (λ e. same_then _ _ _ same ((c.in_err-put_promised.ensures.writes honest).harmless e))

pub returns-clause-ok : goal.returns-clause-ok
returns-clause-ok g c honest d holds =
    let before = c.put_promised.ensures.trust.honest honest in
    let first = c.votes_from.ensures.trust.honest before in
    let read = c.in_ok-promised.ensures.value first d holds in
    let below : promised d < c.args.ballot = rw read at c.in_default.ensures.none in
    let mid = still_holds _ _ d (c.in_ok-promised.ensures.kept first) holds in
    let later = still_holds _ _ d (c.in_ok-votes.ensures.kept before) mid in
    (Some (Promises c.args.ballot), (below, c.in_ok-votes.ensures.value before d mid, refl), (c.in_ok-put_promised.ensures.writes honest).ok d later)
