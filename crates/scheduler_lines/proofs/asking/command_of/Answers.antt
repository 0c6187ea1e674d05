use Rattle.std.proofs.Common.{subst}
use Rattle.std.specs.Prelude.{IfErr}
use Rattle.scheduler_lines.specs.Asking.{IsRefused}
use Rattle.scheduler_lines.proofs.asking.command_of.Goals as goal

pub returns-clause-fault : goal.returns-clause-fault
returns-clause-fault c =
    subst (λ line. IfErr c.command_by_table.result (IsRefused line)) c.deref-3.ensures.value c.command_by_table.ensures.fault
