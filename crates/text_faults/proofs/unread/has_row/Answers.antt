use Rattle.std.proofs.Common.{rules, ap, ◌∙◌, bytes_eq}
use Rattle.std.specs.List.{list_any}
use Rattle.std.proofs.lemmas.Iterator.{YieldsList-from_slice}
use Rattle.std.proofs.lemmas.Iterator.Search.{any_from_yields_List}
use borrow.Author.Tests.{tests}
use Rattle.text_faults.specs.Rows.{key_name}
use Rattle.text_faults.proofs.unread.has_row.Goals as goal

pub returns : goal.returns
returns c =
    any_from_yields_List (λ row. bytes_eq (key_name row.0) c.args.name.now) _ _ _ c.any.ensures.ran (YieldsList-from_slice c.rows.result.now cc) (λ x b q k. search (rules, tests))
    ∙ ap (list_any (λ row. bytes_eq (key_name row.0) c.args.name.now)) c.rows.ensures
