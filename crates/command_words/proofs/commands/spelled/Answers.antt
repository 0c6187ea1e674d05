use Rattle.command_log.specs.Reading.{command_in}
use Rattle.command_words.proofs.Spelled.{spelled_none, spelled_one}
use Rattle.command_words.proofs.commands.spelled.Goals as goal

pub returns-then-is_one : goal.returns-then-is_one
returns-then-is_one c =
    spelled_one c.args.value.now c.read_command-command.result.0 c.one_spelling.ensures.spelled (c.read_command-command.ensures.read c.if-is_one.true)

pub returns : goal.returns
returns c =
    spelled_none c.args.value.now (command_in c.args.value.now) (c.one_spelling.ensures.any c.args.value.now (λ i. (c.type_inv.value i).fits))
    (c.read_command-command.ensures.other c.if-is_one.false).1
