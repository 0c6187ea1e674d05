-- The reply to each line, over what the commands before it left.
use Rattle.std.specs.Prelude.{◌≡◌, ℕ, ◌⊎◌, List, [], ◌∷◌, Option, IsSome}
use Rattle.flow_state.specs.Rows.{Rows}
use Rattle.grant_machine.specs.declared.command.Command.{Command}
use Rattle.grant_machine.specs.Steps.{TakesNoMemory, refusal_of, step}
use Rattle.node_lines.specs.Commands.{longest_command}
use Rattle.node_lines.specs.Input.{IsDroppedBeyond, ReadsLast, ReadsLine}
use Rattle.node_lines.specs.declared.fault.LineFault.{LineFault}
use Rattle.node_lines.specs.declared.fault.LineFault.TheVariants as fault
use Rattle.scheduler_lines.specs.declared.incoming.Incoming.{Incoming}
use Rattle.scheduler_lines.specs.declared.incoming.Incoming.TheVariants as incoming
use Rattle.scheduler_lines.specs.declared.outgoing.Reply.{Reply}
use Rattle.scheduler_lines.specs.declared.outgoing.Reply.TheVariants as reply
use Rattle.scheduler_lines.specs.Asking.{AsksFor, IsRefused}

-- a line is refused so, once it is looked at or before
abbrev pub IsTurnedAway : List ℕ → LineFault → Type 0
IsTurnedAway line why = IsRefused line why ⊎ IsDroppedBeyond longest_command line why

-- what a line that was looked at is taken for
abbrev pub IsTakenFor : List ℕ → Incoming → Type 0
IsTakenFor line (incoming.Asks c) = AsksFor line c
IsTakenFor line (incoming.Refused why) = IsRefused line why
IsTakenFor line incoming.End = ⊥

-- a whole line comes and is taken for this, or none is left
abbrev pub Comes : Option (List ℕ) → Option (List ℕ) → Incoming → Type 0
Comes old new (incoming.Asks c) = (line : List ℕ) × ReadsLine old new line × AsksFor line c
Comes old new (incoming.Refused why) = (line : List ℕ) × ReadsLine old new line × IsTurnedAway line why
Comes old new incoming.End = (left : List ℕ) × ReadsLast old new left

-- there may be no memory for a command that isn't refused, and takes some
abbrev pub MayLackMemory : Rows → Command → LineFault → Type 0
MayLackMemory rows c why = (why ≡ fault.OutOfMemory) × ¬ IsSome (refusal_of rows c) × ¬ TakesNoMemory rows c

-- the reply to a command over rows, and the rows after it: its step, or want of memory, which changes nothing
abbrev pub Applies : Rows → Command → Reply → Rows → Type 0
Applies rows c (reply.Applied o) after = (o ≡ (step rows c).output) × (after ≡ (step rows c).rows)
Applies rows c (reply.Refused why) after = MayLackMemory rows c why × (after ≡ rows)

-- the reply to what came
abbrev pub Answers : Rows → Incoming → Reply → Rows → Type 0
Answers rows (incoming.Asks c) replied after = Applies rows c replied after
Answers rows (incoming.Refused why) replied after = (replied ≡ reply.Refused why) × (after ≡ rows)
Answers rows incoming.End replied after = ⊥

-- the reply to a line: the command that it asks for is applied, or it asks nothing, and that changes nothing
abbrev pub RepliesTo : Rows → List ℕ → Reply → Rows → Type 0
RepliesTo rows line replied after =
    ((c : Command) × AsksFor line c × Applies rows c replied after)
    ⊎ ((why : LineFault) × IsTurnedAway line why × (replied ≡ reply.Refused why) × (after ≡ rows))

-- the replies to lines, one after another, from rows on
abbrev pub RepliesFrom : Rows → List (List ℕ × Reply) → Rows → Type 0
RepliesFrom rows [] after = after ≡ rows
RepliesFrom rows (turn ∷ turns) after = (between : Rows) × RepliesTo rows turn.0 turn.1 between × RepliesFrom between turns after
