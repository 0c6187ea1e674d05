-- A table of the kind `flow`.
use Rattle.std.proofs.Common.{◌≡◌, ℕ, Option, Some, codes, arith}
use Rattle.toml.specs.Data.{Data}
use Rattle.grant_machine.specs.declared.command.Command.{Command}
use Rattle.grant_machine.specs.declared.command.Command.TheVariants as commands
use Rattle.script_text.specs.Fields.{HasText}
use Rattle.script_text.specs.CommandTable.{HasLast, SpellsCommand}

-- a table of this kind whose lease has no last minislot spells no command
pub spells_nothing : (d : Data) (r : Option Command) → HasText d (codes "kind") (codes "flow") → ((last : ℕ) → ¬ HasLast d last) → (command : Command) → SpellsCommand d command → r ≡ Some command
spells_nothing d r kind lacking commands.Noop h = grind (arith, h, kind)
spells_nothing d r kind lacking (commands.Channel c) h = grind (arith, h.0, kind)
spells_nothing d r kind lacking (commands.Change ch s) h = grind (arith, h.0, kind)
spells_nothing d r kind lacking (commands.Flow ch modem tag last service) h = absurd (lacking last h.4)
spells_nothing d r kind lacking (commands.Drop ch sid) h = grind (arith, h.0, kind)
spells_nothing d r kind lacking (commands.Request ch sid n sent) h = grind (arith, h.0, kind)
spells_nothing d r kind lacking (commands.Cut ch len not_before ack keep ranging sending) h = grind (arith, h.0, kind)
