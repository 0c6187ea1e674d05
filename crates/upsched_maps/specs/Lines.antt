-- The printed lines of outputs and of a MAP body. Numbers are decimal.
use Rattle.std.specs.Prelude.{ℕ, ◌+◌, List, [], ◌∷◌, ◌++◌, Option, Some, None, codes, decimal}
use Rattle.std.specs.Io.KnownBytes.{Appends}
use Rattle.std.specs.List.{flat_map}
use Rattle.map_body.specs.declared.element.Element.{Element}
use Rattle.map_body.specs.declared.head.Head.{Head}
use Rattle.map_body.specs.Body.{Body}
use Rattle.grant_machine.specs.declared.command.Command.{Command}
use Rattle.grant_machine.specs.declared.output.Output.{Output}
use Rattle.grant_machine.specs.Runs.{outputs_of}
use Rattle.printed_outputs.specs.Texts.{output_text}
use Rattle.script_text.specs.Plan.{IsPlan}

-- the line of an output with its command's number, and the lines of outputs, numbered from n on
abbrev pub output_line : ℕ → Output → List ℕ
output_line n o = decimal n ++ (codes " " ++ (output_text o ++ 10 ∷ []))

abbrev pub output_lines : ℕ → List Output → List ℕ
output_lines n [] = []
output_lines n (o ∷ os) = output_line n o ++ output_lines (n + 1) os

-- what is printed is the lines of the outputs of the plan's commands, where the plan's text is known
abbrev pub PrintsPlan : Option (List ℕ) → Option (List ℕ) → Option (List ℕ) → Type 0
PrintsPlan None old new = Unit {0}
PrintsPlan (Some text) old new = (cs : List Command) × IsPlan text cs × Appends old new (output_lines 1 (outputs_of cs))

-- the back-offs in the head of a MAP body
abbrev pub backoffs_text : Head → List ℕ
backoffs_text h =
    codes "ranging " ++ (decimal h.ranging_backoff.0 ++ (codes " " ++ (decimal h.ranging_backoff.1
    ++ (codes " data " ++ (decimal h.data_backoff.0 ++ (codes " " ++ decimal h.data_backoff.1))))))

-- the head of a MAP body
abbrev pub head_text : Head → List ℕ
head_text h =
    codes "channel " ++ (decimal h.channel ++ (codes " ucd " ++ (decimal h.ucd
    ++ (codes " start " ++ (decimal h.start ++ (codes " ack " ++ (decimal h.ack ++ (codes " " ++ backoffs_text h))))))))

-- an element of a MAP body
abbrev pub element_text : Element → List ℕ
element_text e = codes "offset " ++ (decimal e.offset ++ (codes " sid " ++ (decimal e.sid ++ (codes " iuc " ++ decimal e.iuc))))

-- the line of an element, those of elements in order, and those of a MAP body
abbrev pub element_line : Element → List ℕ
element_line e = element_text e ++ 10 ∷ []

abbrev pub element_lines : List Element → List ℕ
element_lines es = flat_map element_line es

abbrev pub body_lines : Body → List ℕ
body_lines map = head_text map.head ++ 10 ∷ [] ++ element_lines map.elements
