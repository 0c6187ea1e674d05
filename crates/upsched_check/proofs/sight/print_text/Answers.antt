use Rattle.upsched_check.proofs.Warned.{told_of}
use Rattle.upsched_check.proofs.sight.print_text.Goals as goal

pub returns-in_ok-print_warnings-in-Ok-clause-told : goal.returns-in_ok-print_warnings-in-Ok-clause-told
returns-in_ok-print_warnings-in-Ok-clause-told g c =
    told_of c.args.path.now c.args.text.now c.args.said _ _ _ _ _ _ _ c.in-Ok.ensures.ok c.in_ok-good-in-Ok.ensures.good c.is_some.ensures
    c.in_ok-good-in-Ok.ensures.printed c.in_ok-print_warnings-in-Ok.ensures.printed
