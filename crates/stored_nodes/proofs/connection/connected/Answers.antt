use Rattle.std.proofs.Common.{rules, ◌≡◌, Result, Err, IfErr, IsErrAnd, subst, sym}
use Rattle.log_ties.specs.Ties.{IsToldOf}
use Rattle.sqlite.specs.Files.{image_of}
use Rattle.stored_nodes.specs.Lost.{TellsLoss, TellsShown}
use Rattle.stored_nodes.specs.declared.start.StartFault.{StartFault}
use Rattle.stored_nodes.proofs.Opened.{found_before, told_shown}
use Rattle.stored_nodes.proofs.connection.connected.Goals as goal

pub returns-in-Ok-clause-found : goal.returns-in-Ok-clause-found
returns-in-Ok-clause-found g c clean =
    found_before {g = g.D.Disk} c.args.files c.refuse_lost.new.files c.in-Ok.conn c.refuse_lost.ensures.log c.refuse_lost.ensures.db (c.in-Ok.ensures.found clean)

pub returns-in-Ok-clause-lost : goal.returns-in-Ok-clause-lost
returns-in-Ok-clause-lost g c loss lost clean = c.in_ok-tie.ensures.lost loss lost (c.in-Ok.ensures.found clean).honest

pub returns-in-Ok-clause-told : goal.returns-in-Ok-clause-told
returns-in-Ok-clause-told g c never usable loss lost = c.in_ok-tie.ensures.lost loss lost (never _ _)

pub returns-in-Err-clause-told : goal.returns-in-Err-clause-told
returns-in-Err-clause-told g c never usable loss lost = absurd (c.in_ok-tie.ensures.lost loss lost (never _ _))

pub returns-in_err-tie-clause-told : goal.returns-in_err-tie-clause-told
returns-in_err-tie-clause-told g c never usable loss lost =
    let is : c.from_residual.result ≡ Err c.in_err-tie.field-0.0 = search rules in
    subst (λ (r : Result _ StartFault). IsErrAnd r (TellsLoss loss)) (sym is) (c.in_err-tie.ensures.lost loss lost (never _ _))

pub returns-in-Ok-clause-copied : goal.returns-in-Ok-clause-copied
returns-in-Ok-clause-copied g c clean tied =
    (subst (λ t. IsToldOf (image_of g.D.Disk c.args.files) t) tied (c.in_ok-tie.ensures.told (c.in-Ok.ensures.found clean).honest)).1

pub returns-in-Err-clause-due : goal.returns-in-Err-clause-due
returns-in-Err-clause-due g c never loss is = absurd (c.in-Err.ensures.no_loss loss is)

pub returns-in_err-tie-clause-due : goal.returns-in_err-tie-clause-due
returns-in_err-tie-clause-due g c never =
    let is : c.from_residual.result ≡ Err c.in_err-tie.field-0.0 = search rules in
    subst (λ (r : Result _ StartFault). IfErr r (TellsShown (image_of g.D.Disk c.args.files))) (sym is) (told_shown _ _ _ _ (c.in_err-tie.ensures.due (never _ _)))
