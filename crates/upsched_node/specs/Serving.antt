-- What one node does with the lines that it reads.
use Rattle.std.specs.Prelude.{◌≡◌, ◌≢◌, ◌⊎◌, ℕ, ◌-◌, ◌^◌, List, [], ◌∷◌, ◌++◌, length, All}
use Rattle.std.specs.Io.KnownBytes.{Appends, Consumes}
use Rattle.acceptor.specs.Content.{no_content}
use Rattle.ballots.specs.Members.{member_count}
use Rattle.ballots.specs.declared.members.Members.{Members}
use Rattle.node.specs.declared.node.Node.{Ghosts}
use Rattle.node.specs.View.{Standing, started}
use Rattle.node.specs.View.Standing.{Running, Stopped}
use Rattle.node_lines.specs.Input.{IsLine, ReadsLast}
use Rattle.node_lines.specs.Lines.{Asks}
use Rattle.node_lines.specs.declared.request.Request.{Request}
use Rattle.node_lines.specs.declared.writing.Unwritten.{Unwritten}
use Rattle.node_service.specs.declared.incoming.Incoming.TheVariants as incoming
use Rattle.node_service.specs.declared.incoming.Input.{Ghosts as Inputs}
use Rattle.node_service.specs.declared.outgoing.Output.{Ghosts as Outputs}
use Rattle.node_service.specs.declared.outgoing.Reply.{Reply}
use Rattle.node_service.specs.declared.outgoing.Reply.TheVariants as reply
use Rattle.node_service.specs.declared.service.End.{End}
use Rattle.node_service.specs.declared.service.End.TheVariants as ends
use Rattle.node_service.specs.Incoming.{IsTurnedAway}
use Rattle.node_service.specs.Seated.{asked_of}
use Rattle.node_service.specs.Serving.{lines_of, text_of}
use Rattle.node_service.specs.Texts.{reply_text}
use Rattle.seats.specs.Acted.{letters_of, outputs_of, told}
use Rattle.seats.specs.Acts.{GoesTo}
use Rattle.seats.specs.Occupant.{Stands, who_of}
use Rattle.seats.specs.declared.seat.Seat.{Seat}
use Rattle.upsched_ends.specs.declared.status.Status.{Status}
use Rattle.upsched_ends.specs.declared.status.Status.TheVariants.{Done, Faulted, NotUnderstood}

-- node me of so many members, which stood at s, replied so to a line, and stands at t
abbrev pub RepliesAs : ℕ → ℕ → Standing → List ℕ → Reply → Standing → Type 0
RepliesAs members me s line (reply.Fresh id count) t = ⊥
RepliesAs members me s line (reply.Restarted id count) t = ⊥
RepliesAs members me s line (reply.Acted acted) t =
    (asked : Request) × Asks line asked × GoesTo members me s (asked_of asked) (told acted) (letters_of acted) (outputs_of acted) (λ u. u ≡ t)
RepliesAs members me s line (reply.Refused why) t = IsTurnedAway line why × (t ≡ s)

-- the same of lines, one after another
abbrev pub RunsAs : ℕ → ℕ → Standing → List (List ℕ × Reply) → Standing → Type 0
RunsAs members me s [] t = t ≡ s
RunsAs members me s (turn ∷ turns) t = (between : Standing) × RepliesAs members me s turn.0 turn.1 between × RunsAs members me between turns t

abbrev pub IsUp : Standing → Type 0
IsUp (Running view) = Unit {0}
IsUp (Stopped c doubt) = ⊥

abbrev pub IsDown : Standing → Type 0
IsDown (Running view) = ⊥
IsDown (Stopped c doubt) = Unit {0}

-- lines with their replies were served, and then: no whole line was left; or the node was down; or the input failed;
-- or the last one's reply couldn't be written; or they are all that a run may have
abbrev pub EndsAs : {I O : Type 0} → Inputs I → Outputs O → End → List (List ℕ × Reply) → Standing → I → O → I → O → Type 0
EndsAs {I} {O} input output ends.Input turns t i o i' o' =
    IsUp t × Appends (output.bytes_held o) (output.bytes_held o') (text_of turns)
    × ((rest : I) × (left : List ℕ) × Consumes (input.bytes_left i) (input.bytes_left rest) (lines_of turns) × input.gives rest incoming.End i'
    × ReadsLast (input.bytes_left rest) (input.bytes_left i') left)
EndsAs {I} {O} input output ends.Crashed turns t i o i' o' =
    IsDown t × Appends (output.bytes_held o) (output.bytes_held o') (text_of turns) × Consumes (input.bytes_left i) (input.bytes_left i') (lines_of turns)
EndsAs {I} {O} input output ends.Unreadable turns t i o i' o' =
    IsUp t × Appends (output.bytes_held o) (output.bytes_held o') (text_of turns)
    × ((rest : I) × Consumes (input.bytes_left i) (input.bytes_left rest) (lines_of turns) × input.fails rest i')
EndsAs {I} {O} input output (ends.Unwritten why) turns t i o i' o' =
    Consumes (input.bytes_left i) (input.bytes_left i') (lines_of turns)
    × ((front : List (List ℕ × Reply)) × (last : List ℕ × Reply) × (sent : O) × (turns ≡ front ++ last ∷ [])
    × Appends (output.bytes_held o) (output.bytes_held sent) (text_of front) × output.fails sent last.1 why o')
EndsAs {I} {O} input output ends.Spent turns t i o i' o' =
    Appends (output.bytes_held o) (output.bytes_held o') (text_of turns) × Consumes (input.bytes_left i) (input.bytes_left i') (lines_of turns)
    × (length turns ≡ 2 ^ 64 - 1)

-- node me of so many members, which stood at s, served an input and an output so, and ended so
pub record ServesAs {I O : Type 0} (input : Inputs I) (output : Outputs O) (members me : ℕ) (s : Standing) (end : End) (i : I) (o : O) (i' : I) (o' : O) : Type 0 where
  pub turns : List (List ℕ × Reply)
  pub last : Standing
  pub whole : All (λ turn. IsLine turn.0) turns
  pub runs : RunsAs members me s turns last
  pub ends : EndsAs input output end turns last i o i' o'

-- the seat of a new node of this number, over records that hold nothing
pub record IsNewSeat {N : Type 0} {g : Ghosts N} (me all : ℕ) (seat : Seat N g) : Type 0 where
  pub id : (who_of seat).id ≡ me
  pub members : (who_of seat).members ≡ all
  pub stands : Stands seat (Running (started no_content))

-- a new node of this number told who it is and served, or it couldn't tell even that
abbrev pub RunsNode : {I O : Type 0} → Inputs I → Outputs O → ℕ → Members → Status → I → O → I → O → Type 0
RunsNode {I} {O} input output id count Done i o i' o' =
    (told : O) × Appends (output.bytes_held o) (output.bytes_held told) (reply_text (reply.Fresh id count))
    × ServesAs input output (member_count count) id (Running (started no_content)) ends.Input i told i' o'
RunsNode {I} {O} input output id count Faulted i o i' o' =
    ((why : Unwritten) × output.fails o (reply.Fresh id count) why o' × (i' ≡ i))
    ⊎ ((told : O) × (end : End) × Appends (output.bytes_held o) (output.bytes_held told) (reply_text (reply.Fresh id count)) × (end ≢ ends.Input)
    × ServesAs input output (member_count count) id (Running (started no_content)) end i told i' o')
RunsNode {I} {O} input output id count NotUnderstood i o i' o' = ⊥
