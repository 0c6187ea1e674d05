use Rattle.std.proofs.Common.{refl, ap, subst, IsTrue, false}
use Rattle.node.specs.Learned.{Learned}
use Rattle.proposer.specs.declared.proposer.Proposer.{Proposer}
use Rattle.node.proofs.Endings.{restart_fails, restart_ends, reads, reads_harmless, adds_nothing, read_after}
use Rattle.node.proofs.Endings.{still_holds}
use Rattle.node.proofs.Telling.{restart_failed}
use Rattle.node.proofs.parts.Parts.start_over.Goals as goal

pub returns-in-Err-clause-done : goal.returns-in-Err-clause-done
returns-in-Err-clause-done g c honest s stands =
    let before = subst (λ (a : g.row.R.Denot). IsTrue (g.R.Records.is_honest a)) c.fail.ensures.records honest in
    restart_fails g.R.Records.may_find c.args.self.now c.reopen.new.self (c.reopen.ensures.kept before) c.in-Err.fault c.fail.result c.fail.new.self (λ harm content. still_holds (g.R.Records.may_find c.args.self.now.records) (g.R.Records.may_find c.reopen.new.self) content (c.in-Err.ensures.harmless before harm)) c.fail.ensures.fails s stands

pub returns-in-Err-clause-kept : goal.returns-in-Err-clause-kept
returns-in-Err-clause-kept g c = restart_failed g.R.Records.count_of g.R.Records.is_broken c.args.self.now c.reopen.new.self c.in-Err.fault c.fail.result c.fail.new.self c.fail.ensures.fails c.in-Err.ensures.count c.in-Err.ensures.broken

pub returns-in-Err-read-clause-done : goal.returns-in-Err-read-clause-done
returns-in-Err-read-clause-done g c honest s stands =
    let old = c.args.self.now in
    let before = subst (λ (a : g.row.R.Denot). IsTrue (g.R.Records.is_honest a)) c.fail-in-Err-read.ensures.records honest in
    let first = c.read.ensures.trust.honest before in
    let found = g.R.Records.may_find old.records in
    let mid = g.R.Records.may_find c.reopen.new.self in
    let last = g.R.Records.may_find c.read.new.records in
    restart_fails g.R.Records.may_find old c.read.new.records (adds_nothing Learned found mid last (c.reopen.ensures.kept first) c.in-Err-read.fault (c.in-Err-read.ensures.kept before)) c.in-Err-read.fault c.fail-in-Err-read.result c.fail-in-Err-read.new.self
    (reads_harmless found mid last (c.in_default.ensures.ok first) Learned c.in-Err-read.fault (c.in-Err-read.ensures.kept before)) c.fail-in-Err-read.ensures.fails s stands

pub returns-clause-done : goal.returns-clause-done
returns-clause-done g c honest s stands =
    let old = c.args.self.now in
    let first = c.read.ensures.trust.honest honest in
    let mid = g.R.Records.may_find c.reopen.new.self in
    let last = g.R.Records.may_find c.read.new.records in
    let kept = c.in-Ok.ensures.kept honest in
    restart_ends g.R.Records.may_find old record old { records = c.read.new.records; proposer = c.restart.new.self; knowledge = c.in-Ok.knowledge; is_down = false } refl
    (λ content holds. ap (λ (both : Proposer × Learned). record { content = content; role = both.0.role; hint = both.0.hint; tally = both.1.tally; cursor = both.1.cursor }) (λ i. (c.restart.ensures i, c.in-Ok.ensures.value honest content (read_after mid last kept content holds) i)))
    (reads (g.R.Records.may_find old.records) mid last (c.in_default.ensures.ok first) kept) s stands
