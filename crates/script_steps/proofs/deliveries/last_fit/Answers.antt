use Rattle.std.proofs.Common.{rules, ◌∙◌}
use Rattle.std.proofs.lemmas.Iterator.Adapters.{YieldsList-from_rev_slice}
use Rattle.std.proofs.lemmas.Iterator.Search.{find_from_yields_List}
use borrow.Author.Tests.{tests}
use Rattle.script_steps.specs.Names.{fits_at}
use Rattle.script_steps.proofs.deliveries.last_fit.Goals as goal

pub returns : goal.returns
returns c =
    c.copied.ensures
    ∙ find_from_yields_List (fits_at c.args.name.now c.args.letters.now) _ _ _ c.find.ensures.ran (YieldsList-from_rev_slice c.args.numbers.now cc) (λ x b q k. search (rules, tests))
