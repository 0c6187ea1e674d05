use Rattle.std.proofs.Common.{rules, ap, ◌∙◌, bytes_eq}
use Rattle.std.specs.List.{find}
use Rattle.std.proofs.lemmas.Iterator.{YieldsList-from_slice}
use Rattle.std.proofs.lemmas.Iterator.Search.{find_from_yields_List}
use borrow.Author.Tests.{tests}
use Rattle.text_faults.specs.Kinds.{kind_name}
use Rattle.text_faults.proofs.kind.Group.named.Goals as goal

pub returns : goal.returns
returns c =
    c.copied.ensures
    ∙ find_from_yields_List (λ kind. bytes_eq (kind_name kind) c.args.name.now) _ _ _ c.find.ensures.ran (YieldsList-from_slice c.kinds.result.now cc) (λ x b q k. search (rules, tests))
    ∙ ap (find (λ kind. bytes_eq (kind_name kind) c.args.name.now)) c.kinds.ensures
