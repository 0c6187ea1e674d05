-- What is read, done and written, line after line.
use Rattle.std.specs.Prelude.{◌≡◌, ℕ, ◌-◌, ◌^◌, List, [], ◌∷◌, ◌++◌, length, true, false}
use Rattle.std.specs.List.{flat_map}
use Rattle.std.specs.Io.KnownBytes.{Appends, Consumes}
use Rattle.node_lines.specs.Input.{IsLine, ReadsLast, ReadsLine}
use Rattle.node_service.specs.declared.incoming.Incoming.{Incoming}
use Rattle.node_service.specs.declared.incoming.Incoming.TheVariants as incoming
use Rattle.node_service.specs.declared.incoming.Input.{Ghosts as Inputs}
use Rattle.node_service.specs.declared.outgoing.Output.{Ghosts as Outputs}
use Rattle.node_service.specs.declared.outgoing.Reply.{Reply}
use Rattle.node_service.specs.declared.outgoing.Reply.TheVariants as reply
use Rattle.node_service.specs.declared.actor.Actor.{Ghosts as Actors}
use Rattle.node_service.specs.declared.service.End.{End}
use Rattle.node_service.specs.declared.service.End.TheVariants as ends
use Rattle.node_service.specs.Incoming.{IsTakenFor}
use Rattle.node_service.specs.Texts.{reply_text}

-- the reply to what came: what is asked is done, and what is refused changes nothing
abbrev pub RepliesTo : {A : Type 0} → Actors A → Incoming → A → Reply → A → Type 0
RepliesTo doer (incoming.Asks asked) old (reply.Acted acted) new = doer.obeys old asked acted new
RepliesTo doer (incoming.Refused why) old (reply.Refused told) new = (told ≡ why) × (new ≡ old)
RepliesTo doer what old replied new = ⊥

-- a line came and was taken for something, and this is the reply to it, of one that was up
pub record Turn {A I : Type 0} (doer : Actors A) (input : Inputs I) (line : List ℕ) (replied : Reply) (a : A) (i : I) (a' : A) (i' : I) : Type 0 where
  pub what : Incoming
  pub whole : IsLine line
  pub comes : input.gives i what i'
  pub taken : IsTakenFor line what
  pub up : doer.up a ≡ true
  pub replies : RepliesTo doer what a replied a'

-- lines with the reply to each, one after another
abbrev pub Turns : {A I : Type 0} → Actors A → Inputs I → List (List ℕ × Reply) → A → I → A → I → Type 0
Turns doer input [] a i a' i' = (a' ≡ a) × (i' ≡ i)
Turns {A} {I} doer input (turn ∷ turns) a i a' i' =
    (between : A) × (rest : I) × Turn doer input turn.0 turn.1 a i between rest × Turns doer input turns between rest a' i'

-- the lines with their ends, and the text of the replies
abbrev pub lines_of : List (List ℕ × Reply) → List ℕ
lines_of turns = flat_map (λ turn. turn.0 ++ 10 ∷ []) turns

abbrev pub text_of : List (List ℕ × Reply) → List ℕ
text_of turns = flat_map (λ turn. reply_text turn.1) turns

-- these whole lines were read and replied to, and nothing else was read or written
pub record ServesLines {A I O : Type 0} (doer : Actors A) (input : Inputs I) (output : Outputs O) (turns : List (List ℕ × Reply)) (a : A) (i : I) (o : O) (a' : A) (i' : I) (o' : O) : Type 0 where
  pub turned : Turns doer input turns a i a' i'
  pub read : Consumes (input.bytes_left i) (input.bytes_left i') (lines_of turns)
  pub written : Appends (output.bytes_held o) (output.bytes_held o') (text_of turns)

-- lines were served, and then: no whole one was left; or the doer was down; or the input failed; or one more line was
-- read and done, and its reply failed; or these are all that a run may have
abbrev pub EndsBy : {A I O : Type 0} → Actors A → Inputs I → Outputs O → End → A → I → O → A → I → O → Type 0
EndsBy {A} {I} {O} doer input output ends.Input a i o a' i' o' =
    (turns : List (List ℕ × Reply)) × (rest : I) × (left : List ℕ) × ServesLines doer input output turns a i o a' rest o' × (doer.up a' ≡ true)
    × input.gives rest incoming.End i' × ReadsLast (input.bytes_left rest) (input.bytes_left i') left
EndsBy {A} {I} {O} doer input output ends.Crashed a i o a' i' o' =
    (turns : List (List ℕ × Reply)) × ServesLines doer input output turns a i o a' i' o' × (doer.up a' ≡ false)
EndsBy {A} {I} {O} doer input output ends.Unreadable a i o a' i' o' =
    (turns : List (List ℕ × Reply)) × (rest : I) × ServesLines doer input output turns a i o a' rest o' × (doer.up a' ≡ true) × input.fails rest i'
EndsBy {A} {I} {O} doer input output (ends.Unwritten why) a i o a' i' o' =
    (turns : List (List ℕ × Reply)) × (before : A) × (rest : I) × (sent : O) × (line : List ℕ) × (replied : Reply)
    × ServesLines doer input output turns a i o before rest sent × Turn doer input line replied before rest a' i'
    × ReadsLine (input.bytes_left rest) (input.bytes_left i') line × output.fails sent replied why o'
EndsBy {A} {I} {O} doer input output ends.Spent a i o a' i' o' =
    (turns : List (List ℕ × Reply)) × ServesLines doer input output turns a i o a' i' o' × (length turns ≡ 2 ^ 64 - 1)
