use Rattle.std.proofs.Common.{subst}
use Rattle.std.specs.Prelude.{IfErr}
use Rattle.node_lines.specs.Lines.{IsRefused}
use Rattle.node_lines.proofs.reading.request_of.Goals as goal

pub returns-in-Some-digits_behind-clause-fault : goal.returns-in-Some-digits_behind-clause-fault
returns-in-Some-digits_behind-clause-fault c =
    subst (λ line. IfErr c.offer_in.result (IsRefused line)) c.deref-in-Some-digits_behind.ensures.value c.offer_in.ensures.fault
