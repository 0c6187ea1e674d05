use Rattle.std.proofs.Common.{false, true}
use Rattle.std.proofs.lemmas.Result.{IfOk-weaker}
use Rattle.folder_hosts.proofs.Begun.{beside_before}
use Rattle.folder_hosts.proofs.opens.FolderOpens.begun.Goals as goal

pub returns-in-Ok-clause-started : goal.returns-in-Ok-clause-started
returns-in-Ok-clause-started g c = (false, c.in-Ok.ensures.started)

pub returns-in-Err-clause-started : goal.returns-in-Err-clause-started
returns-in-Err-clause-started g c =
    IfOk-weaker c.begun_anew.result _ _ (λ r it. (
      true,
      beside_before g.D.Databases.member g.D.Databases.begins c.args.self.now.databases _ c.in-Err.ensures.keeps _ _ _ _ c.args.epoch true r.0 it,
    )) c.begun_anew.ensures.started
