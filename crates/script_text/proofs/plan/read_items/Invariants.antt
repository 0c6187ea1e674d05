use Rattle.std.proofs.Common.{◌≡◌, ◌++◌, List, map}
use Rattle.std.specs.List.{AllZip}
use Rattle.toml.specs.Data.{Data}
use Rattle.toml.specs.View.{view}
use Rattle.script_text.specs.CommandTable.{SpellsCommand}
use Rattle.script_text.proofs.plan.read_items.Given as goal

abbrev pub invariant-loop-item : goal.invariant-loop-item
invariant-loop-item l = (read : List Data) × (map view l.fn.items.items ≡ read ++ map view l.item-iterator.rest.items) × AllZip SpellsCommand read l.commands.items
