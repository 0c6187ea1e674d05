-- What a line asks of a scheduler, without its end: a command, by the digits of its bytes or as a table of TOML.
use Rattle.std.specs.Prelude.{◌≡◌, ℕ, ◌<◌, ◌≤◌, ◌⊎◌, List, ◌++◌, length, Ok, IsErr, codes}
use Rattle.hex.specs.Hex.{decode_of}
use Rattle.command_log.specs.Spelling.{Spells, SpellsNone}
use Rattle.grant_machine.specs.declared.command.Command.{Command}
use Rattle.node_lines.specs.Commands.{IsCommandLine, IsCommandText, command_word, longest_command}
use Rattle.node_lines.specs.Lines.{BeginsOther}
use Rattle.node_lines.specs.declared.fault.LineFault.{LineFault}
use Rattle.node_lines.specs.declared.fault.LineFault.TheVariants as fault

-- the word before the digits of a command's bytes
abbrev pub apply_word : List ℕ
apply_word = codes "apply "

-- digits of bytes that spell this command
abbrev pub SpellsAt : List ℕ → Command → Type 0
SpellsAt digits c = (bytes : List ℕ) × (decode_of digits ≡ Ok bytes) × Spells bytes c

-- a line spells this command by its bytes
abbrev pub IsApplyLine : List ℕ → Command → Type 0
IsApplyLine line c = (digits : List ℕ) × (line ≡ apply_word ++ digits) × SpellsAt digits c

-- a line spells this command by a table
abbrev pub IsTableLine : List ℕ → Command → Type 0
IsTableLine line c = IsCommandLine line × IsCommandText line c

-- a line asks for this command
abbrev pub AsksFor : List ℕ → Command → Type 0
AsksFor line c = (length line ≤ longest_command) × (IsApplyLine line c ⊎ IsTableLine line c)

-- a line asks for no command
abbrev pub AsksNothing : List ℕ → Type 0
AsksNothing line = (c : Command) → ¬ AsksFor line c

-- why digits are no command's bytes
abbrev pub IsNoDigits : List ℕ → LineFault → Type 0
IsNoDigits digits fault.NoLine = ⊥
IsNoDigits digits fault.NoHex = IsErr (decode_of digits)
IsNoDigits digits fault.NoNumber = ⊥
IsNoDigits digits fault.NoCommand = (bytes : List ℕ) × (decode_of digits ≡ Ok bytes) × SpellsNone bytes
IsNoDigits digits (fault.NoLetter why) = ⊥
IsNoDigits digits fault.OutOfMemory = ⊥
IsNoDigits digits fault.TooLong = ⊥

-- the same of a line that begins with the word before digits
abbrev pub IsNoApply : List ℕ → LineFault → Type 0
IsNoApply line why = (digits : List ℕ) × (line ≡ apply_word ++ digits) × IsNoDigits digits why

-- why a line that was looked at asks nothing; want of memory comes only with a table, and says nothing
abbrev pub IsRefused : List ℕ → LineFault → Type 0
IsRefused line fault.NoLine = BeginsOther apply_word line × BeginsOther command_word line
IsRefused line fault.NoHex = IsNoApply line fault.NoHex
IsRefused line fault.NoNumber = ⊥
IsRefused line fault.NoCommand = IsNoApply line fault.NoCommand ⊎ (IsCommandLine line × ((c : Command) → ¬ IsCommandText line c))
IsRefused line (fault.NoLetter why) = ⊥
IsRefused line fault.OutOfMemory = IsCommandLine line
IsRefused line fault.TooLong = ⊥
