-- A plan: commands under the key `command` of a TOML text. Positions count from 1.
use Rattle.std.specs.Prelude.{◌≡◌, ℕ, ◌+◌, List, Option, Some, None, codes}
use Rattle.toml.specs.Data.{Data, Members}
use Rattle.toml.specs.Parse.{parse_document}
use Rattle.grant_machine.specs.declared.command.Command.{Command}
use Rattle.script_text.specs.declared.plan.PlanFault.{PlanFault}
use Rattle.script_text.specs.declared.plan.PlanFault.TheVariants.{NotToml, BadCommand, OutOfMemory}
use Rattle.script_text.specs.CommandTable.{SpellsCommand}
use Rattle.script_text.specs.Items.{items_at, tables_at, AllMean, IsBadIndex}

-- the commands of a table
abbrev pub HasCommands : Members → List Command → Type 0
HasCommands ms cs = AllMean SpellsCommand (items_at ms (codes "command")) cs

-- the position that a fault tells: of the first item that spells no command, or 1 where there are no items to look at
abbrev pub IsBadFromOne : Option (List Data) → ℕ → Type 0
IsBadFromOne items position = (index : ℕ) × (position ≡ index + 1) × IsBadIndex SpellsCommand items index

abbrev pub IsBadAt : Members → ℕ → Type 0
IsBadAt ms position = IsBadFromOne (tables_at ms (codes "command")) position

-- a bad command at such a position, or want of memory, which says nothing
abbrev pub IsFaultAt : (ℕ → Type 0) → PlanFault → Type 0
IsFaultAt P NotToml = ⊥
IsFaultAt P (BadCommand position) = P position
IsFaultAt P OutOfMemory = Unit {0}

-- the text is a plan of these commands
abbrev pub IsPlan : List ℕ → List Command → Type 0
IsPlan text cs = (ms : Members) × (parse_document text ≡ Some ms) × HasCommands ms cs

-- why a text isn't read as a plan: it is no TOML, a command is bad, or want of memory, which says nothing of it
abbrev pub IsPlanFault : List ℕ → PlanFault → Type 0
IsPlanFault text NotToml = parse_document text ≡ None
IsPlanFault text (BadCommand position) = (ms : Members) × (parse_document text ≡ Some ms) × IsBadAt ms position
IsPlanFault text OutOfMemory = Unit {0}

-- the text is known to be no plan
abbrev pub NoPlan : Option (List ℕ) → Type 0
NoPlan None = ⊥
NoPlan (Some text) = (cs : List Command) → ¬ IsPlan text cs
