use Rattle.std.proofs.Common.{sym, true≢false}
use Rattle.stored_nodes.proofs.Looked.{always_honest}
use Rattle.stored_nodes.proofs.looks.hold_nothing.Goals as goal

pub returns-in-Ok-clause-nothing : goal.returns-in-Ok-clause-nothing
returns-in-Ok-clause-nothing g c always content held =
    ((λ _. c.in-Ok.ensures.empty (always_honest g.S.Store always c.in-Ok._node.parts.records.held) content held), (λ is. absurd (true≢false is)))

pub returns-in-Err-NotFresh-clause-nothing : goal.returns-in-Err-NotFresh-clause-nothing
returns-in-Err-NotFresh-clause-nothing g c always content held =
    let used = c.begun_with.ensures.used (cc (c.in-Err-NotFresh.is, c.in-Err-NotFresh.field-0-is)) (always_honest g.S.Store always c.args.records.held) (λ r. always_honest g.S.Store always r.held) in
    ((λ is. absurd (true≢false (sym is))), (λ _. used content held))
