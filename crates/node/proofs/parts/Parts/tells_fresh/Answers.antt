use Rattle.std.proofs.Common.{ap, sym, subst, ◌∙◌, IsTrue}
use Rattle.std.proofs.lemmas.Bool.{false≢true}
use Rattle.node.specs.View.{View}
use Rattle.node.proofs.Freshness.{tells, tell_fails, fresh_so, no_tell}
use Rattle.node.proofs.Telling.{failed}
use Rattle.node.proofs.parts.Parts.tells_fresh.Goals as goal

pub returns-in-Err-clause-done : goal.returns-in-Err-clause-done
returns-in-Err-clause-done g c honest =
    let before = subst (λ (a : g.row.R.Denot). IsTrue (g.R.Records.is_honest a)) c.fail.ensures.records honest in
    tell_fails g.R.Records.may_find c.args.self.now c.requires c.hold_nothing.new.records c.in-Err.fault c.fail.result c.fail.new.self (c.in-Err.ensures.kept before) c.fail.ensures.fails

pub returns-then-not-is_empty-clause-done : goal.returns-then-not-is_empty-clause-done
returns-then-not-is_empty-clause-done g c honest =
    tells g.R.Records.may_find c.args.self.now c.requires c.hold_nothing.new.records (c.in-Ok.ensures.kept honest) _
    (λ content holds. no_tell _ (λ same. false≢true (sym c.if-not-is_empty.true ∙ (c.in-Ok.ensures.value honest content holds).1 (ap (λ (v : View). v.content) same))))

pub returns-clause-done : goal.returns-clause-done
returns-clause-done g c honest =
    tells g.R.Records.may_find c.args.self.now c.requires c.hold_nothing.new.records (c.in-Ok.ensures.kept honest) c.is_untouched.result
    (λ content holds. fresh_so g.R.Records.may_find c.args.self.now c.requires content ((c.in-Ok.ensures.value honest content holds).0 c.if-not-is_empty.false) c.is_untouched.result c.is_untouched.ensures)

pub returns-in-Err-clause-kept : goal.returns-in-Err-clause-kept
returns-in-Err-clause-kept g c =
    failed g.R.Records.count_of g.R.Records.is_broken c.args.self.now c.hold_nothing.new.records c.in-Err.fault c.fail.result c.fail.new.self c.requires c.fail.ensures.fails c.in-Err.ensures.account.count c.in-Err.ensures.account.broken
