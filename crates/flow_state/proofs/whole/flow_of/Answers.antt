use Rattle.std.proofs.Common.{rules, eqb, ◌∙◌}
use Rattle.std.proofs.lemmas.Iterator.{YieldsList-from_slice}
use Rattle.std.proofs.lemmas.Iterator.Search.{find_from_yields_List}
use borrow.Author.Tests.{tests}
use Rattle.flow_state.specs.declared.flow.Flow.{Flow}
use Rattle.flow_state.proofs.whole.flow_of.Goals as goal

pub returns : goal.returns
returns c =
    c.copied.ensures
    ∙ find_from_yields_List (λ (f : Flow). eqb f.lease.sid c.args.sid) _ _ _ c.find.ensures.ran (YieldsList-from_slice c.args.flows.now cc) (λ x b q k. search (rules, tests))
