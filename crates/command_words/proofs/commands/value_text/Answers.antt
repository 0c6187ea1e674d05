use Rattle.std.proofs.Common.{◌≡◌, ◌∙◌, ap, subst, IfOk, string_bytes}
use Rattle.command_log.specs.Reading.{command_in}
use Rattle.command_words.specs.Commands.{spelled_text}
use Rattle.command_words.proofs.commands.value_text.Goals as goal

pub returns : goal.returns
returns c =
    subst (λ o. IfOk c.spelled_text.result (λ text. string_bytes text ≡ spelled_text o)) (c.spelled.ensures ∙ ap command_in c.as_slice.ensures)
    c.spelled_text.ensures
