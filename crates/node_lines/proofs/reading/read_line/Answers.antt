use Rattle.std.proofs.Common.{subst}
use Rattle.std.specs.Prelude.{IfErr}
use Rattle.node_lines.specs.Lines.{IsRefused}
use Rattle.node_lines.proofs.Asked.{refusals_ask_nothing}
use Rattle.node_lines.proofs.reading.read_line.Goals as goal

pub returns-clause-fault : goal.returns-clause-fault
returns-clause-fault c = subst (λ line. IfErr c.request_of.result (IsRefused line)) c.into_vec.ensures c.request_of.ensures.fault

pub returns-clause-nothing : goal.returns-clause-nothing
returns-clause-nothing c =
    refusals_ask_nothing c.args.line c.request_of.result (subst (λ line. IfErr c.request_of.result (IsRefused line)) c.into_vec.ensures c.request_of.ensures.fault)
