use Rattle.std.proofs.Common.{List, subst, sym}
use Rattle.std.specs.List.{All}
use Rattle.std.proofs.lemmas.List.Elements.{All-push, All-set}
use Rattle.script_steps.specs.Kept.{IsPassed}
use Rattle.script_steps.specs.declared.kept.Passed.{Passed}
use Rattle.script_steps.proofs.kept.pass_over.Goals as goal

pub returns-in-Some-clause-kept : goal.returns-in-Some-clause-kept
returns-in-Some-clause-kept c = All-set (IsPassed c.args.sent.now) c.args.passed.now.items c.in-Some.k c.further-now.result c.further-now.ensures.passed c.requires

pub returns-in_ok-push-in-None-clause-kept : goal.returns-in_ok-push-in-None-clause-kept
returns-in_ok-push-in-None-clause-kept c =
    subst (λ (ps : List Passed). All (IsPassed c.args.sent.now) ps) (sym c.in_ok-push-in-None.ensures.items)
    (All-push (IsPassed c.args.sent.now) c.args.passed.now.items c.further-now-in-None.result c.requires c.further-now-in-None.ensures.passed)
