use Rattle.std.proofs.Common.{◌∙◌, drop, length-drop, take_all, arith}
use Rattle.host_service.proofs.Digits.{no_second}
use Rattle.host_service.proofs.number.number_before.Goals as goal

pub returns-in_default-digits_before : goal.returns-in_default-digits_before
returns-in_default-digits_before c = λ n rest numbered.
    no_second c.args.line.now (drop c.in-Some.behind c.args.line.now) c.in-Some.epoch c.in-Some.ensures.fits c.in-Some.ensures.is
    (λ p more fits is. c.in_default-digits_before.ensures p more fits
    (take_all _ (drop c.in-Some.behind c.args.line.now) (omega (arith, length-drop c.in-Some.behind c.args.line.now)) ∙ is)) n rest numbered
