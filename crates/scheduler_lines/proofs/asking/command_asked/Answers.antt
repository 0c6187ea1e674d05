use Rattle.std.proofs.Common.{subst}
use Rattle.std.specs.Prelude.{IfErr}
use Rattle.scheduler_lines.specs.Asking.{IsRefused}
use Rattle.scheduler_lines.proofs.Asked.{refusals_ask_nothing}
use Rattle.scheduler_lines.proofs.asking.command_asked.Goals as goal

pub returns-clause-fault : goal.returns-clause-fault
returns-clause-fault c = subst (λ line. IfErr c.command_of.result (IsRefused line)) c.into_vec.ensures c.command_of.ensures.fault

pub returns-clause-nothing : goal.returns-clause-nothing
returns-clause-nothing c =
    refusals_ask_nothing c.args.line c.command_of.result (subst (λ line. IfErr c.command_of.result (IsRefused line)) c.into_vec.ensures c.command_of.ensures.fault)
