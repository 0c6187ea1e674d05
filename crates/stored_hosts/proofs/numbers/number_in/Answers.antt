use Rattle.std.proofs.Common.{◌≡◌, ◌∙◌, true, false, sym, ap, subst}
use Rattle.std.specs.Prelude.{decimal}
use Rattle.std.specs.Str.{IsUtf8, bytes_eq}
use Rattle.std.proofs.lemmas.Fmt.{IsAscii-decimal, parse-decimal}
use Rattle.std.proofs.lemmas.Slice.Eq.{bytes_eq-Decides}
use Rattle.std.proofs.lemmas.Str.{IsUtf8-from_ascii}
use Rattle.stored_hosts.proofs.numbers.number_in.Goals as goal

pub returns-in_default : goal.returns-in_default
returns-in_default c = λ n fits is. c.in_default.ensures.cases.0 (subst (λ bs. IsUtf8 bs) (sym is) (IsUtf8-from_ascii (decimal n) (IsAscii-decimal n fits)))

pub returns-in_default-parse : goal.returns-in_default-parse
returns-in_default-parse c = λ n fits is.
    c.in_default-parse.not-Ok n (parse-decimal 64 n c.in-Ok.text.now c.parse.result fits fits (c.in-Ok.ensures.cases.0 ∙ is) c.parse.ensures.value.0)

pub returns-else-eq : goal.returns-else-eq
returns-else-eq c = λ n fits is.
    let parsed = parse-decimal 64 n c.in-Ok.text.now c.parse.result fits fits (c.in-Ok.ensures.cases.0 ∙ is) c.parse.ensures.value.0 in
    let number : c.in-Ok-parse.number ≡ n = cc (parsed, c.in-Ok-parse.is) in
    let same : c.as_bytes.result.now ≡ c.args.digits.now = c.as_bytes.ensures.value ∙ c.format.ensures.text ∙ ap decimal number ∙ sym is in
    let yes : bytes_eq c.as_bytes.result.now c.args.digits.now ≡ true = (bytes_eq-Decides c.as_bytes.result.now c.args.digits.now).1 same in
    let wrong : false ≡ true = sym c.if-eq.false ∙ c.eq.ensures ∙ yes in
    cc
