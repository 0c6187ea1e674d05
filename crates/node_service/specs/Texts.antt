-- The exact text of each reply, with its lines' ends.
use Rattle.std.specs.Prelude.{ℕ, List, [], ◌∷◌, ◌++◌, codes, decimal}
use Rattle.std.specs.List.{flat_map}
use Rattle.ballots.specs.Members.{member_count}
use Rattle.ballots.specs.declared.members.Members.{Members}
use Rattle.letter_bytes.specs.declared.fault.LetterFault.{LetterFault}
use Rattle.letter_bytes.specs.declared.fault.LetterFault.TheVariants as bytes
use Rattle.map_release.specs.declared.numbered.Numbered.{Numbered}
use Rattle.node_lines.specs.Lines.{fault_number, letter_lines}
use Rattle.node_lines.specs.declared.fault.LineFault.{LineFault}
use Rattle.node_lines.specs.declared.fault.LineFault.TheVariants as fault
use Rattle.printed_answers.specs.Texts.{answer_text}
use Rattle.printed_outputs.specs.Texts.{output_text}
use Rattle.seats.specs.Acted.{letters_of, outputs_of, told}
use Rattle.seats.specs.declared.acted.Acted.{Acted as Came}
use Rattle.seats.specs.declared.answer.Answer.{Answer}
use Rattle.node_service.specs.declared.outgoing.Reply.{Reply}
use Rattle.node_service.specs.declared.outgoing.Reply.TheVariants.{Fresh, Restarted, Acted, Refused}

-- the name of what is wrong with a letter's bytes
abbrev pub letter_fault_name : LetterFault → List ℕ
letter_fault_name bytes.Short = codes "Short"
letter_fault_name bytes.NoNote = codes "NoNote"
letter_fault_name bytes.NoNode = codes "NoNode"
letter_fault_name bytes.NoBallot = codes "NoBallot"
letter_fault_name bytes.Trailing = codes "Trailing"
letter_fault_name bytes.OutOfMemory = codes "OutOfMemory"

-- the name of why a line asks nothing
abbrev pub line_fault_name : LineFault → List ℕ
line_fault_name fault.NoLine = codes "NoLine"
line_fault_name fault.NoHex = codes "NoHex"
line_fault_name fault.NoNumber = codes "NoNumber"
line_fault_name fault.NoCommand = codes "NoCommand"
line_fault_name (fault.NoLetter why) = codes "NoLetter"
line_fault_name fault.OutOfMemory = codes "OutOfMemory"
line_fault_name fault.TooLong = codes "TooLong"

-- the line that tells why a line asks nothing; that of a letter tells what is wrong with its bytes
abbrev pub no_letter_text : LetterFault → List ℕ
no_letter_text why = codes "error " ++ (decimal (fault_number (fault.NoLetter why)) ++ (codes " NoLetter " ++ (letter_fault_name why ++ 10 ∷ [])))

abbrev pub fault_text : LineFault → List ℕ
fault_text why = codes "error " ++ (decimal (fault_number why) ++ (codes " " ++ (line_fault_name why ++ 10 ∷ [])))

abbrev pub refused_text : LineFault → List ℕ
refused_text (fault.NoLetter why) = no_letter_text why
refused_text other = fault_text other

-- the first line of a reply
abbrev pub head_text : Answer → List ℕ
head_text answer = answer_text answer ++ 10 ∷ []

-- the line of an output at its place
abbrev pub place_line : Numbered → List ℕ
place_line x = codes "place " ++ (decimal x.place ++ (codes " " ++ (output_text x.output ++ 10 ∷ [])))

abbrev pub place_lines : List Numbered → List ℕ
place_lines xs = flat_map place_line xs

-- what goes out behind the first line
abbrev pub given_text : Came → List ℕ
given_text acted = letter_lines (letters_of acted) ++ place_lines (outputs_of acted)

-- the reply to a line that asked something
abbrev pub acted_text : Came → List ℕ
acted_text acted = head_text (told acted) ++ given_text acted

-- the first line of a node that holds nothing
abbrev pub fresh_text : ℕ → Members → List ℕ
fresh_text id members = codes "node " ++ (decimal id ++ (codes " of " ++ (decimal (member_count members) ++ (codes " fresh" ++ 10 ∷ []))))

-- the first line of a node that goes on over what it left
abbrev pub restarted_text : ℕ → Members → List ℕ
restarted_text id members = codes "node " ++ (decimal id ++ (codes " of " ++ (decimal (member_count members) ++ (codes " restarted" ++ 10 ∷ []))))

-- what is told at one time
abbrev pub reply_text : Reply → List ℕ
reply_text (Fresh id members) = fresh_text id members
reply_text (Restarted id members) = restarted_text id members
reply_text (Acted acted) = acted_text acted
reply_text (Refused why) = refused_text why
