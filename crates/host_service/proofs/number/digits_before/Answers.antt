use Rattle.std.proofs.Common.{◌≡◌, ◌∙◌, None, length, take, ap}
use Rattle.std.specs.Prelude.{decimal}
use Rattle.host_service.proofs.Digits.{found_digits}
use Rattle.host_service.proofs.number.digits_before.Goals as goal

pub returns-in_default : goal.returns-in_default
returns-in_default c = λ n rest fits is.
    let found = found_digits c.args.line.now c.args.end n rest c.memchr.result c.requires fits is c.memchr.ensures in
    let none : c.memchr.result ≡ None = cc in
    absurd (cc (found.0, none))

pub returns-in_default-number_in : goal.returns-in_default-number_in
returns-in_default-number_in c = λ n rest fits is.
    let found = found_digits c.args.line.now c.args.end n rest c.memchr.result c.requires fits is c.memchr.ensures in
    let place : c.in-Some.place ≡ length (decimal n) = cc (found.0, c.in-Some.is) in
    c.in_default-number_in.ensures n fits (c.split_at.ensures.front ∙ ap (λ k. take k c.args.line.now) place ∙ found.1)
