-- A table of the kind `channel`.
use Rattle.std.proofs.Common.{◌≡◌, Option, Some, codes, arith}
use Rattle.toml.specs.Data.{Data}
use Rattle.flow_state.specs.declared.channel.Channel.{Channel}
use Rattle.grant_machine.specs.declared.command.Command.{Command}
use Rattle.grant_machine.specs.declared.command.Command.TheVariants as commands
use Rattle.script_text.specs.Fields.{HasText}
use Rattle.script_text.specs.CommandTable.{HasChannel, SpellsCommand}

-- a table of this kind that lacks a channel's fields spells no command
pub spells_nothing : (d : Data) (r : Option Command) → HasText d (codes "kind") (codes "channel") → ((c : Channel) → ¬ HasChannel d c) → (command : Command) → SpellsCommand d command → r ≡ Some command
spells_nothing d r kind lacking commands.Noop h = grind (arith, h, kind)
spells_nothing d r kind lacking (commands.Channel c) h = absurd (lacking c h.1)
spells_nothing d r kind lacking (commands.Change ch s) h = grind (arith, h.0, kind)
spells_nothing d r kind lacking (commands.Flow ch modem tag last service) h = grind (arith, h.0, kind)
spells_nothing d r kind lacking (commands.Drop ch sid) h = grind (arith, h.0, kind)
spells_nothing d r kind lacking (commands.Request ch sid n sent) h = grind (arith, h.0, kind)
spells_nothing d r kind lacking (commands.Cut ch len not_before ack keep ranging sending) h = grind (arith, h.0, kind)
