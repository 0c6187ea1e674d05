-- What `maps --json` prints of a plan.
use Rattle.std.specs.Prelude.{ℕ, List, [], ◌∷◌, ◌++◌, Option, Some, None}
use Rattle.std.specs.Io.KnownBytes.{Appends}
use Rattle.std.specs.List.{AllZip, enumerate_from, flat_map}
use Rattle.grant_machine.specs.declared.command.Command.{Command}
use Rattle.grant_machine.specs.declared.output.Output.{Output}
use Rattle.grant_machine.specs.Runs.{outputs_of}
use Rattle.json_outputs.specs.Outputs.{TellsCommand}
use Rattle.json_outputs.specs.Texts.{IsTextWhere}
use Rattle.script_text.specs.Plan.{IsPlan}

-- a text tells an output and the number of its command
abbrev pub TellsNumbered : ℕ × Output → List ℕ → Type 0
TellsNumbered numbered text = IsTextWhere (TellsCommand numbered.0 numbered.1) text

-- texts as lines
abbrev pub text_lines : List (List ℕ) → List ℕ
text_lines texts = flat_map (λ text. text ++ 10 ∷ []) texts

-- a line for each output, in order, whose text tells it and the number of its command, from 1 on
abbrev pub PrintsOutputs : List Output → Option (List ℕ) → Option (List ℕ) → Type 0
PrintsOutputs outputs old new = (texts : List (List ℕ)) × AllZip TellsNumbered (enumerate_from 1 outputs) texts × Appends old new (text_lines texts)

-- lines tell the outputs of the plan's commands, where the plan's text is known
abbrev pub PrintsPlanAsJson : Option (List ℕ) → Option (List ℕ) → Option (List ℕ) → Type 0
PrintsPlanAsJson None old new = Unit {0}
PrintsPlanAsJson (Some text) old new = (cs : List Command) × IsPlan text cs × PrintsOutputs (outputs_of cs) old new
