use Rattle.std.proofs.Common.{◌≡◌, ◌∙◌, ap, subst, IfOk, string_bytes}
use Rattle.command_log.specs.Reading.{command_in}
use Rattle.command_words.specs.Commands.{spelled_words}
use Rattle.command_words.proofs.commands.value_words.Goals as goal

pub returns : goal.returns
returns c =
    subst (λ o. IfOk c.spelled_words.result (λ text. string_bytes text ≡ spelled_words o)) (c.spelled.ensures ∙ ap command_in c.as_slice.ensures)
    c.spelled_words.ensures
