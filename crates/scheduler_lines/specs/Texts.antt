-- The text of each reply.
use Rattle.std.specs.Prelude.{◌≡◌, ℕ, List, [], ◌∷◌, ◌++◌, Option, codes, decimal}
use Rattle.std.specs.Io.KnownBytes.{Appends}
use Rattle.std.specs.List.{flat_map}
use Rattle.json_outputs.specs.Fields.{with_number, with_text}
use Rattle.json_outputs.specs.Outputs.{TellsCommand}
use Rattle.json_outputs.specs.Texts.{IsTextOf, IsTextWhere}
use Rattle.node_lines.specs.Lines.{fault_number}
use Rattle.node_lines.specs.declared.fault.LineFault.{LineFault}
use Rattle.node_lines.specs.declared.fault.LineFault.TheVariants as fault
use Rattle.printed_outputs.specs.Texts.{output_text}
use Rattle.serde_json.specs.Data.{Data, object, no_members}
use Rattle.scheduler_lines.specs.declared.form.ReplyForm.{ReplyForm}
use Rattle.scheduler_lines.specs.declared.form.ReplyForm.TheVariants.{Plain, Json}
use Rattle.scheduler_lines.specs.declared.outgoing.Reply.{Reply}
use Rattle.scheduler_lines.specs.declared.outgoing.Reply.TheVariants.{Applied, Refused}

-- the name of why a line asks nothing
abbrev pub fault_name : LineFault → List ℕ
fault_name fault.NoLine = codes "NoLine"
fault_name fault.NoHex = codes "NoHex"
fault_name fault.NoNumber = codes "NoNumber"
fault_name fault.NoCommand = codes "NoCommand"
fault_name (fault.NoLetter why) = codes "NoLetter"
fault_name fault.OutOfMemory = codes "OutOfMemory"
fault_name fault.TooLong = codes "TooLong"

-- a reply behind its number: an output as `maps` prints it, or the number and the name of a fault
abbrev pub reply_text : Reply → List ℕ
reply_text (Applied o) = output_text o
reply_text (Refused why) = codes "error " ++ (decimal (fault_number why) ++ (codes " " ++ fault_name why))

abbrev pub numbered_text : ℕ → Reply → List ℕ
numbered_text n replied = decimal n ++ (codes " " ++ reply_text replied)

-- a fault as an object, with the number of its line
abbrev pub fault_data : ℕ → LineFault → Data
fault_data n why = object
    (with_text (codes "name") (fault_name why) (with_number (codes "error") (fault_number why)
    (with_text (codes "output") (codes "error") (with_number (codes "command") n no_members))))

-- a text is the object of a reply: an output as `maps --json` prints it, or a fault
abbrev pub IsObjectText : ℕ → Reply → List ℕ → Type 0
IsObjectText n (Applied o) text = IsTextWhere (TellsCommand n o) text
IsObjectText n (Refused why) text = IsTextOf (fault_data n why) text

-- a text is the reply to the line of this number, without its end
abbrev pub IsReplyText : ReplyForm → ℕ → Reply → List ℕ → Type 0
IsReplyText Plain n replied text = text ≡ numbered_text n replied
IsReplyText Json n replied text = IsObjectText n replied text

-- texts as lines
abbrev pub lines_of : List (List ℕ) → List ℕ
lines_of texts = flat_map (λ text. text ++ 10 ∷ []) texts

-- the line of a reply is written
abbrev pub WritesReply : ReplyForm → ℕ → Reply → Option (List ℕ) → Option (List ℕ) → Type 0
WritesReply form n replied old new = (text : List ℕ) × IsReplyText form n replied text × Appends old new (text ++ 10 ∷ [])
