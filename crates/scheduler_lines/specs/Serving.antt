-- What is read and written, line after line.
use Rattle.std.specs.Prelude.{◌≡◌, ℕ, ◌-◌, ◌^◌, ◌≤◌, List, [], ◌∷◌, ◌++◌, All, Option, length, map}
use Rattle.std.specs.List.{AllZip, enumerate_from}
use Rattle.std.specs.Io.KnownBytes.{Appends, Consumes}
use Rattle.flow_state.specs.Rows.{Rows}
use Rattle.node_lines.specs.Input.{IsLine, ReadsLast}
use Rattle.scheduler_lines.specs.declared.form.ReplyForm.{ReplyForm}
use Rattle.scheduler_lines.specs.declared.incoming.Input.{Ghosts as Inputs}
use Rattle.scheduler_lines.specs.declared.outgoing.Output.{Ghosts as Outputs}
use Rattle.scheduler_lines.specs.declared.outgoing.Reply.{Reply}
use Rattle.scheduler_lines.specs.declared.service.End.{End}
use Rattle.scheduler_lines.specs.declared.service.End.TheVariants as ends
use Rattle.scheduler_lines.specs.Replying.{RepliesFrom}
use Rattle.scheduler_lines.specs.Texts.{IsReplyText, lines_of}

-- a line with its reply
abbrev pub Turn : Type 0
Turn = List ℕ × Reply

-- lines, and the replies to them
abbrev pub asked_in : List (List ℕ × Reply) → List (List ℕ)
asked_in turns = map (λ turn. turn.0) turns

abbrev pub replied_in : List (List ℕ × Reply) → List Reply
replied_in turns = map (λ turn. turn.1) turns

-- these whole lines were read, and nothing else, and these are the replies to them, from no channel on
pub record DoesLines {I : Type 0} (input : Inputs I) (turns : List (List ℕ × Reply)) (rows : Rows) (i i' : I) : Type 0 where
  pub whole : All (λ turn. IsLine turn.0) turns
  pub replied : RepliesFrom [] turns rows
  pub read : Consumes (input.bytes_left i) (input.bytes_left i') (lines_of (asked_in turns))

-- a line is written for each reply, with its number, from 1 on, and nothing else
abbrev pub WritesReplies : ReplyForm → List Reply → Option (List ℕ) → Option (List ℕ) → Type 0
WritesReplies form replies old new =
    (texts : List (List ℕ)) × AllZip (λ row text. IsReplyText form row.0 row.1 text) (enumerate_from 1 replies) texts × Appends old new (lines_of texts)

-- lines were done and their replies written, and then: no whole line was left; or the input failed; or a write failed,
-- where the last reply may not have been written; or these are all that a run may have
abbrev pub SchedulerEndsBy : {I O : Type 0} → Inputs I → Outputs O → ReplyForm → End → I → O → I → O → Type 0
SchedulerEndsBy {I} {O} input output form ends.Input i o i' o' =
    (turns : List (List ℕ × Reply)) × (rows : Rows) × (rest : I) × (left : List ℕ) × DoesLines input turns rows i rest
    × WritesReplies form (replied_in turns) (output.bytes_held o) (output.bytes_held o') × ReadsLast (input.bytes_left rest) (input.bytes_left i') left
SchedulerEndsBy {I} {O} input output form ends.Unreadable i o i' o' =
    (turns : List (List ℕ × Reply)) × (rows : Rows) × (rest : I) × DoesLines input turns rows i rest
    × WritesReplies form (replied_in turns) (output.bytes_held o) (output.bytes_held o') × input.fails rest i'
SchedulerEndsBy {I} {O} input output form (ends.Unwritten why) i o i' o' =
    (turns : List (List ℕ × Reply)) × (last : List (List ℕ × Reply)) × (rows : Rows) × (sent : O) × DoesLines input (turns ++ last) rows i i' × (length last ≤ 1)
    × WritesReplies form (replied_in turns) (output.bytes_held o) (output.bytes_held sent) × output.fails sent why o'
SchedulerEndsBy {I} {O} input output form ends.Spent i o i' o' =
    (turns : List (List ℕ × Reply)) × (rows : Rows) × DoesLines input turns rows i i'
    × WritesReplies form (replied_in turns) (output.bytes_held o) (output.bytes_held o') × (length turns ≡ 2 ^ 64 - 1)
