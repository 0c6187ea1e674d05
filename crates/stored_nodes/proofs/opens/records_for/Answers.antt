use Rattle.std.proofs.Common.{rules, ◌≡◌, Result, Err, IfErr, IsErrAnd, subst, sym}
use Rattle.std.proofs.lemmas.Result.{IfErr-weaker, IfOk-weaker}
use Rattle.sqlite.specs.Files.{image_of}
use Rattle.stored_nodes.specs.Lost.{TellsLoss, TellsShown}
use Rattle.stored_nodes.specs.declared.start.StartFault.{StartFault}
use Rattle.stored_nodes.proofs.Copying.{begun_new, begun_old}
use Rattle.stored_nodes.proofs.opens.records_for.Goals as goal

pub returns-then-is_new-clause-holds : goal.returns-then-is_new-clause-holds
returns-then-is_new-clause-holds g c =
    rw c.if-is_new.true
    (begun_new {g = g.D.Disk} c.args.files (record { node = c.args.node; members = c.args.members }) c.in_ok-conn.conn c.new_records.result c.in_ok-conn.ensures.opened c.in_ok-conn.ensures.found c.new_records.ensures.clean c.new_records.ensures.blank c.new_records.ensures.holds)

pub returns-then-is_new-clause-lost : goal.returns-then-is_new-clause-lost
returns-then-is_new-clause-lost g c loss lost = IfOk-weaker c.new_records.result _ _ (λ r clean honest. c.in_ok-conn.ensures.lost loss lost (clean honest)) c.new_records.ensures.clean

pub returns-then-is_new-clause-told : goal.returns-then-is_new-clause-told
returns-then-is_new-clause-told g c never usable loss lost = absurd (c.in_ok-conn.ensures.told never usable loss lost)

pub returns-else-is_new-clause-holds : goal.returns-else-is_new-clause-holds
returns-else-is_new-clause-holds g c =
    rw c.if-is_new.false
    (begun_old {g = g.D.Disk} c.args.files (record { node = c.args.node; members = c.args.members }) c.in_ok-conn.tie c.in_ok-conn.conn c.old_records.result c.in_ok-conn.ensures.found c.in_ok-conn.ensures.copied c.old_records.ensures.clean c.old_records.ensures.holds)

pub returns-else-is_new-clause-lost : goal.returns-else-is_new-clause-lost
returns-else-is_new-clause-lost g c loss lost = IfOk-weaker c.old_records.result _ _ (λ r clean honest. c.in_ok-conn.ensures.lost loss lost (clean honest)) c.old_records.ensures.clean

pub returns-else-is_new-clause-told : goal.returns-else-is_new-clause-told
returns-else-is_new-clause-told g c never usable loss lost = absurd (c.in_ok-conn.ensures.told never usable loss lost)

pub returns-in_err-conn-clause-told : goal.returns-in_err-conn-clause-told
returns-in_err-conn-clause-told g c never usable loss lost =
    let is : c.from_residual.result ≡ Err c.in_err-conn.field-0.0 = search rules in
    subst (λ (r : Result _ StartFault). IsErrAnd r (TellsLoss loss)) (sym is) (c.in_err-conn.ensures.told never usable loss lost)

pub returns-then-is_new-clause-due : goal.returns-then-is_new-clause-due
returns-then-is_new-clause-due g c never = IfErr-weaker c.new_records.result _ _ (λ e no loss is. absurd (no loss is)) c.new_records.ensures.no_loss

pub returns-else-is_new-clause-due : goal.returns-else-is_new-clause-due
returns-else-is_new-clause-due g c never = IfErr-weaker c.old_records.result _ _ (λ e no loss is. absurd (no loss is)) c.old_records.ensures.no_loss

pub returns-in_err-conn-clause-due : goal.returns-in_err-conn-clause-due
returns-in_err-conn-clause-due g c never =
    let is : c.from_residual.result ≡ Err c.in_err-conn.field-0.0 = search rules in
    subst (λ (r : Result _ StartFault). IfErr r (TellsShown (image_of g.D.Disk c.args.files))) (sym is) (c.in_err-conn.ensures.due never)
