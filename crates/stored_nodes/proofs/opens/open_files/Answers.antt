use Rattle.std.proofs.Common.{rules, ◌≡◌, Result, Err, IfErr, IsErrAnd, subst, sym}
use Rattle.sqlite.specs.Files.{image_of}
use Rattle.stored_nodes.specs.Lost.{TellsLoss, TellsShown}
use Rattle.stored_nodes.specs.declared.start.StartFault.{StartFault}
use Rattle.stored_nodes.proofs.Opened.{found_in}
use Rattle.stored_nodes.proofs.opens.open_files.Goals as goal

pub returns-in-Ok-clause-holds : goal.returns-in-Ok-clause-holds
returns-in-Ok-clause-holds g c honest =
    let it = c.in-Ok.ensures.holds honest in
    let clean = c.in-Ok.ensures.clean honest in
    (it.0, it.2, found_in {g = g.D.Disk} c.args.files c.in_ok-conn.conn it.0 (c.in_ok-conn.ensures.opened clean) (c.in_ok-conn.ensures.found clean) it.1)

pub returns-in-Ok-clause-lost : goal.returns-in-Ok-clause-lost
returns-in-Ok-clause-lost g c loss lost honest = c.in_ok-conn.ensures.lost loss lost (c.in-Ok.ensures.clean honest)

pub returns-in-Ok-clause-told : goal.returns-in-Ok-clause-told
returns-in-Ok-clause-told g c never usable loss lost = absurd (c.in_ok-conn.ensures.told never usable loss lost)

pub returns-in-Err-clause-told : goal.returns-in-Err-clause-told
returns-in-Err-clause-told g c never usable loss lost = absurd (c.in_ok-conn.ensures.told never usable loss lost)

pub returns-in_err-conn-clause-told : goal.returns-in_err-conn-clause-told
returns-in_err-conn-clause-told g c never usable loss lost =
    let is : c.from_residual.result ≡ Err c.in_err-conn.field-0.0 = search rules in
    subst (λ (r : Result _ StartFault). IsErrAnd r (TellsLoss loss)) (sym is) (c.in_err-conn.ensures.told never usable loss lost)

pub returns-in_err-conn-clause-due : goal.returns-in_err-conn-clause-due
returns-in_err-conn-clause-due g c never =
    let is : c.from_residual.result ≡ Err c.in_err-conn.field-0.0 = search rules in
    subst (λ (r : Result _ StartFault). IfErr r (TellsShown (image_of g.D.Disk c.args.files))) (sym is) (c.in_err-conn.ensures.due never)

pub returns-in-Err-clause-due : goal.returns-in-Err-clause-due
returns-in-Err-clause-due g c never loss is = absurd (c.told.ensures.no_loss loss is)
