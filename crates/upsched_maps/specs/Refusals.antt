-- What is printed of the commands of a plan where each refusal has its reason. Numbers are decimal.
use Rattle.std.specs.Prelude.{ℕ, ◌+◌, List, [], ◌∷◌, ◌++◌, Option, Some, None, codes, decimal}
use Rattle.std.specs.Io.KnownBytes.{Appends}
use Rattle.flow_state.specs.declared.reason.Reason.{Reason}
use Rattle.flow_state.specs.Rows.{Rows}
use Rattle.grant_machine.specs.declared.command.Command.{Command}
use Rattle.grant_machine.specs.declared.command.Command.TheVariants as commands
use Rattle.grant_machine.specs.declared.output.Output.{Output}
use Rattle.grant_machine.specs.Steps.{step}
use Rattle.grant_machine.specs.Why.{why_refused}
use Rattle.printed_outputs.specs.Reasons.{refused_text}
use Rattle.printed_outputs.specs.Texts.{output_text}
use Rattle.script_text.specs.Plan.{IsPlan}

-- the kind of a command, as a plan has it
abbrev pub kind_name : Command → List ℕ
kind_name commands.Noop = codes "noop"
kind_name (commands.Channel c) = codes "channel"
kind_name (commands.Change ch s) = codes "change"
kind_name (commands.Flow ch modem tag last kind) = codes "flow"
kind_name (commands.Drop ch sid) = codes "drop"
kind_name (commands.Request ch sid n sent) = codes "request"
kind_name (commands.Cut ch len not_before ack keep ranging sending) = codes "cut"

-- what is printed of commands one after another: the line of each, by its number from n on and the rows before it
abbrev pub lines_from : (ℕ → Rows → Command → List ℕ) → ℕ → Rows → List Command → List ℕ
lines_from line n rows [] = []
lines_from line n rows (c ∷ cs) = line n rows c ++ lines_from line (n + 1) (step rows c).rows cs

-- an output, or why the command is refused
abbrev pub named_text : Option Reason → Output → List ℕ
named_text None o = output_text o
named_text (Some reason) o = refused_text reason

-- the line of a command's output with the command's number
abbrev pub named_line : ℕ → Rows → Command → List ℕ
named_line n rows c = decimal n ++ (codes " " ++ (named_text (why_refused rows c) (step rows c).output ++ 10 ∷ []))

abbrev pub named_lines : List Command → List ℕ
named_lines cs = lines_from named_line 1 [] cs

-- what is printed is these lines of the plan's commands, where the plan's text is known
abbrev pub PrintsNamed : Option (List ℕ) → Option (List ℕ) → Option (List ℕ) → Type 0
PrintsNamed None old new = Unit {0}
PrintsNamed (Some text) old new = (cs : List Command) × IsPlan text cs × Appends old new (named_lines cs)

-- the command by its number and its kind, and why it is refused
abbrev pub refusal_of : ℕ → Command → Reason → List ℕ
refusal_of n c reason = codes "command " ++ (decimal n ++ (codes ": " ++ (kind_name c ++ (codes ": " ++ refused_text reason))))

-- a line behind a plan's path, if there is one
abbrev pub path_line : List ℕ → Option (List ℕ) → List ℕ
path_line path None = []
path_line path (Some text) = path ++ (codes ": " ++ (text ++ 10 ∷ []))

-- of a refused command, the line with the plan's path; of another one, nothing
abbrev pub refusal_on : ℕ → Command → Option Reason → Option (List ℕ)
refusal_on n c None = None
refusal_on n c (Some reason) = Some (refusal_of n c reason)

abbrev pub refusal_line : (path : List ℕ) → ℕ → Rows → Command → List ℕ
refusal_line path n rows c = path_line path (refusal_on n c (why_refused rows c))

-- of all commands, from no channel on
abbrev pub refusal_lines : (path : List ℕ) → List Command → List ℕ
refusal_lines path cs = lines_from (refusal_line path) 1 [] cs
