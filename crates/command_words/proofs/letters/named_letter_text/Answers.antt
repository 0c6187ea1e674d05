use Rattle.std.proofs.Common.{◌≡◌, sym, subst, IfOk, string_bytes}
use Rattle.command_words.specs.Letters.{named_note}
use Rattle.command_words.proofs.letters.named_letter_text.Goals as goal

pub returns-in-Accept : goal.returns-in-Accept
returns-in-Accept c = subst (λ n. IfOk c.named_value.result (λ text. string_bytes text ≡ named_note c.args.letter.now n)) (sym c.in-Accept.is) c.named_value.ensures

pub returns-in-Voted : goal.returns-in-Voted
returns-in-Voted c = subst (λ n. IfOk c.named_value-in-Voted.result (λ text. string_bytes text ≡ named_note c.args.letter.now n)) (sym c.in-Voted.is) c.named_value-in-Voted.ensures

pub returns-in-Known : goal.returns-in-Known
returns-in-Known c = subst (λ n. IfOk c.named_value-in-Known.result (λ text. string_bytes text ≡ named_note c.args.letter.now n)) (sym c.in-Known.is) c.named_value-in-Known.ensures

pub returns-in-Promise : goal.returns-in-Promise
returns-in-Promise c = subst (λ n. IfOk c.named_promise.result (λ text. string_bytes text ≡ named_note c.args.letter.now n)) (sym c.in-Promise.is) c.named_promise.ensures

pub returns-in-Prepare : goal.returns-in-Prepare
returns-in-Prepare c = subst (λ n. IfOk c.letter_text.result (λ text. string_bytes text ≡ named_note c.args.letter.now n)) (sym c.in-Prepare.is) c.letter_text.ensures

pub returns-in-Higher : goal.returns-in-Higher
returns-in-Higher c = subst (λ n. IfOk c.letter_text-in-Higher.result (λ text. string_bytes text ≡ named_note c.args.letter.now n)) (sym c.in-Higher.is) c.letter_text-in-Higher.ensures
