-- The line of a command, which is a text of TOML with the command as a table.
use Rattle.std.specs.Prelude.{◌≡◌, ℕ, List, ◌++◌, Some, codes}
use Rattle.std.specs.Str.{IsUtf8}
use Rattle.toml.specs.Data.{Data, Members, get_member}
use Rattle.toml.specs.Parse.{parse_document}
use Rattle.grant_machine.specs.declared.command.Command.{Command}
use Rattle.script_text.specs.CommandTable.{SpellsCommand}
use Rattle.node_lines.specs.declared.command.TheConstants.{LONGEST_COMMAND}
use Rattle.node_lines.specs.declared.fault.LineFault.{LineFault}
use Rattle.node_lines.specs.declared.fault.LineFault.TheVariants as fault

-- the word before a command's table
abbrev pub command_word : List ℕ
command_word = codes "command "

-- the most bytes of a command's line
abbrev pub longest_command : ℕ
longest_command = LONGEST_COMMAND

-- under `command` there is a table that spells this command
abbrev pub HoldsCommand : Members → Command → Type 0
HoldsCommand ms c = (d : Data) × (get_member (codes "command") ms ≡ Some d) × SpellsCommand d c

-- a text of TOML that holds this command
pub record IsCommandText (text : List ℕ) (c : Command) : Type 0 where
  pub utf8 : IsUtf8 text
  pub members : Members
  pub read : parse_document text ≡ Some members
  pub holds : HoldsCommand members c

-- a line that begins with that word
abbrev pub IsCommandLine : List ℕ → Type 0
IsCommandLine line = (rest : List ℕ) × (line ≡ command_word ++ rest)

-- why no command is read where one may be; want of memory says nothing
abbrev pub IsNoCommand : (Command → Type 0) → LineFault → Type 0
IsNoCommand Reads fault.NoLine = ⊥
IsNoCommand Reads fault.NoHex = ⊥
IsNoCommand Reads fault.NoNumber = ⊥
IsNoCommand Reads fault.NoCommand = (c : Command) → ¬ Reads c
IsNoCommand Reads (fault.NoLetter why) = ⊥
IsNoCommand Reads fault.OutOfMemory = Unit {0}
IsNoCommand Reads fault.TooLong = ⊥
