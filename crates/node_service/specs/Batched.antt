-- Lines that are served in batches: turns, with commits between them.
use Rattle.std.specs.Prelude.{◌≡◌, ◌⊎◌, ℕ, zero, suc, ◌-◌, ◌^◌, ◌≤◌, List, [], ◌∷◌, ◌++◌, length, map, Bool, true, false}
use Rattle.std.specs.Prelude.{Option, None, Some, Result, Ok, Err}
use Rattle.std.specs.List.{flat_map, take_while}
use Rattle.std.specs.Io.KnownBytes.{Appends, Consumes, Keeps}
use Rattle.node_lines.specs.Input.{IsDropped, IsLine, ReadsLast}
use Rattle.node_lines.specs.Lines.{longest_line}
use Rattle.node_service.specs.declared.batches.BatchedEnd.{BatchedEnd}
use Rattle.node_service.specs.declared.batches.BatchedEnd.TheVariants as ends
use Rattle.node_service.specs.declared.keeper.Keeper.{Ghosts as Keepers}
use Rattle.node_service.specs.declared.lines.Lines.{Ghosts as Inputs}
use Rattle.node_service.specs.declared.outbox.Outbox.{Ghosts as Outputs}
use Rattle.node_lines.specs.declared.fault.LineFault.{LineFault}
use Rattle.node_lines.specs.declared.input.Next.{Next}
use Rattle.node_lines.specs.declared.input.Next.TheVariants as next
use Rattle.node_lines.specs.declared.writing.Unwritten.{Unwritten}
use Rattle.node_service.specs.Came.{next_of}

-- a line was kept whole, or let go for this fault
abbrev pub IsCameOf : List ℕ → Result (List ℕ) LineFault → Type 0
IsCameOf line (Ok kept) = (kept ≡ line) × (length line ≤ longest_line)
IsCameOf line (Err why) = IsDropped line why

-- what came is a line that is done apart
abbrev pub comes_apart : (List ℕ → Bool) → Next → Bool
comes_apart is_apart (next.Line line) = is_apart line
comes_apart is_apart other = false

-- a line came, and this is the reply to it, of one that was up. One that is done apart came where a crash leaves all
-- that was done before
pub record LineTurn {A R I : Type 0} (keeper : Keepers A R) (input : Inputs I) (line : List ℕ) (replied : R) (a : A) (i : I) (a' : A) (i' : I) : Type 0 where
  pub came : Result (List ℕ) LineFault
  pub whole : IsLine line
  pub is : IsCameOf line came
  pub gives : input.gives i (next_of came) i'
  pub up : keeper.up a ≡ true
  pub apart : comes_apart keeper.is_apart (next_of came) ≡ true → keeper.has_kept a
  pub replies : keeper.replies a came replied a'

-- so many commits, one after another
abbrev pub Commits : {A R : Type 0} → Keepers A R → ℕ → A → A → Type 0
Commits keeper zero a b = b ≡ a
Commits {A} keeper (suc n) a b = (between : A) × keeper.commits a between × Commits keeper n between b

-- lines with the reply to each, one after another, with commits between them or without any
abbrev pub BatchedTurns : {A R I : Type 0} → Keepers A R → Inputs I → List (List ℕ × R) → A → I → A → I → Type 0
BatchedTurns keeper input [] a i a' i' = (n : ℕ) × Commits keeper n a a' × (i' ≡ i)
BatchedTurns {A} {R} {I} keeper input (turn ∷ turns) a i a' i' =
    (n : ℕ) × (before after : A) × (rest : I) × Commits keeper n a before × LineTurn keeper input turn.0 turn.1 before i after rest × BatchedTurns keeper input turns after rest a' i'

abbrev pub UnkeptTurns : {A R I : Type 0} → Keepers A R → Inputs I → List (List ℕ × R) → A → I → A → I → Type 0
UnkeptTurns keeper input [] a i a' i' = (a' ≡ a) × (i' ≡ i)
UnkeptTurns {A} {R} {I} keeper input (turn ∷ turns) a i a' i' =
    (between : A) × (rest : I) × LineTurn keeper input turn.0 turn.1 a i between rest × UnkeptTurns keeper input turns between rest a' i'

-- the lines with their ends, and the text of the replies
abbrev pub lines_in : {R : Type 0} → List (List ℕ × R) → List ℕ
lines_in turns = flat_map (λ turn. turn.0 ++ 10 ∷ []) turns

abbrev pub text_in : {R : Type 0} → (R → List ℕ) → List (List ℕ × R) → List ℕ
text_in text turns = flat_map (λ turn. text turn.1) turns

abbrev pub replies_in : {R : Type 0} → List (List ℕ × R) → List R
replies_in turns = map (λ turn. turn.1) turns

-- these lines were read and done; of the first ones, which were replied to, and the next ones a crash leaves all; the
-- last ones wait for a commit; and nothing else was read or written
pub record ServesBatched {A R I O : Type 0} (keeper : Keepers A R) (text : R → List ℕ) (input : Inputs I) (output : Outputs O) (seen unseen waiting : List (List ℕ × R)) (a : A) (i : I) (o : O) (a' : A) (i' : I) (o' : O) : Type 0 where
  pub mid : A
  pub from : I
  pub turned : BatchedTurns keeper input (seen ++ unseen) a i mid from
  pub kept : keeper.has_kept mid
  pub waits : UnkeptTurns keeper input waiting mid from a' i'
  pub read : Consumes (input.bytes_left i) (input.bytes_left i') (lines_in ((seen ++ unseen) ++ waiting))
  pub written : Appends (output.bytes_held o) (output.bytes_held o') (text_in text seen)

-- no line was read behind these: nothing was, or no whole line was left, or the input failed
abbrev pub ReadsNoMore : {I : Type 0} → Inputs I → I → I → Type 0
ReadsNoMore input i i' = (i' ≡ i) ⊎ (input.gives i next.End i' ⊎ input.fails i i')

-- no line was done behind these: none was read, or one that was to be done apart
abbrev pub DoesNoMore : {A R I : Type 0} → Keepers A R → Inputs I → I → I → Type 0
DoesNoMore keeper input i i' = ReadsNoMore input i i' ⊎ ((line : List ℕ) × (keeper.is_apart line ≡ true) × input.gives i (next.Line line) i')

-- a text couldn't be written, which is the end
abbrev pub FailsAt : {O : Type 0} → Outputs O → List ℕ → O → O → BatchedEnd → Type 0
FailsAt output text o o' end = (why : Unwritten) × (end ≡ ends.Unwritten why) × output.fails o text why o'

-- a text couldn't be written, or it couldn't be sent out
abbrev pub FailsToTell : {O : Type 0} → Outputs O → List ℕ → Unwritten → O → O → Type 0
FailsToTell {O} output text why o o' =
    output.fails o text why o' ⊎ ((held : O) × Appends (output.bytes_held o) (output.bytes_held held) text × output.fails_to_send held why o')

-- of these replies the first ones were written, and then the next one couldn't be
abbrev pub StopsAt : {R O : Type 0} → (R → List ℕ) → Outputs O → List R → Unwritten → O → O → Type 0
StopsAt {R} {O} text output replies why o o' =
    (front later : List R) × (next : R) × (held : O) × (replies ≡ front ++ next ∷ later)
    × Appends (output.bytes_held o) (output.bytes_held held) (flat_map text front) × output.fails held (text next) why o'

-- behind a commit that failed and is told so, these replies are told: all before the first one that may not be
abbrev pub left_of : {A R : Type 0} → Keepers A R → R → List R → List R
left_of keeper told replies = take_while (keeper.may_tell told) replies

-- a crash leaves what came of each line whose reply may be told there
abbrev pub IsLeft : {A R : Type 0} → Keepers A R → R → A → Type 0
IsLeft {A} {R} keeper told a = (reply : R) → keeper.may_tell told reply ≡ true → keeper.leaves a reply

-- these replies were told there, and then what is told of the commit
abbrev pub TellsLeft : {A R O : Type 0} → Keepers A R → (R → List ℕ) → Outputs O → R → List R → O → O → Type 0
TellsLeft {A} {R} {O} keeper text output told replies o o' =
    (held : O) × Appends (output.bytes_held o) (output.bytes_held held) (flat_map text (left_of keeper told replies))
    × Appends (output.bytes_held held) (output.bytes_held o') (text told)

-- or one of these couldn't be
abbrev pub FailsToTellLeft : {A R O : Type 0} → Keepers A R → (R → List ℕ) → Outputs O → R → List R → Unwritten → O → O → Type 0
FailsToTellLeft {A} {R} {O} keeper text output told replies why o o' =
    StopsAt text output (left_of keeper told replies) why o o'
    ⊎ ((held : O) × Appends (output.bytes_held o) (output.bytes_held held) (flat_map text (left_of keeper told replies))
    × FailsToTell output (text told) why held o')

-- of these texts the first ones were written, and then the next one couldn't be, or these couldn't be sent out
abbrev pub FailsWithin : {R O : Type 0} → (R → List ℕ) → Outputs O → List R → Unwritten → O → O → Type 0
FailsWithin {R} {O} text output replies why o o' =
    (front back : List R) × (held : O) × (replies ≡ front ++ back) × Appends (output.bytes_held o) (output.bytes_held held) (flat_map text front)
    × (output.fails_to_send held why o' ⊎ ((next : R) × (later : List R) × (back ≡ next ∷ later) × output.fails held (text next) why o'))

-- what is there
abbrev pub those : {R : Type 0} → Option R → List R
those None = []
those (Some reply) = reply ∷ []

-- all is kept, by commits alone or without any, and these were replied
pub record Closes {A R O : Type 0} (keeper : Keepers A R) (text : R → List ℕ) (output : Outputs O) (replies : List R) (a : A) (o : O) (a' : A) (o' : O) : Type 0 where
  pub count : ℕ
  pub commits : Commits keeper count a a'
  pub kept : keeper.has_kept a'
  pub noted : keeper.has_noted a'
  pub room : keeper.has_room a'
  pub same : keeper.up a' ≡ keeper.up a
  pub written : Appends (output.bytes_held o) (output.bytes_held o') (flat_map text replies)

-- a reply was taken: it was written behind those that waited, once all was kept, or it waits behind them
abbrev pub Takes : {A R O : Type 0} → Keepers A R → (R → List ℕ) → Outputs O → R → List R → A → O → List R → A → O → Type 0
Takes keeper text output reply replies a o replies' a' o' =
    (Closes keeper text output (replies ++ reply ∷ []) a o a' o' × (replies' ≡ []))
    ⊎ ((replies' ≡ replies ++ reply ∷ []) × (a' ≡ a) × (o' ≡ o))

-- a commit failed, which was told behind the replies that are left, or these couldn't be told; or what was replied before
-- couldn't be sent out, or what is replied now, behind the commit, couldn't be
abbrev pub FailsToClose : {A R O : Type 0} → Keepers A R → (R → List ℕ) → Outputs O → List R → BatchedEnd → A → O → A → O → Type 0
FailsToClose {A} {R} {O} keeper text output replies ends.Uncommitted a o a' o' =
    (told : R) × (sent : O) × Keeps (output.bytes_held o) (output.bytes_held sent) × keeper.fails a told a' × (keeper.up a' ≡ false) × IsLeft keeper told a'
    × TellsLeft keeper text output told replies sent o'
FailsToClose {A} {R} {O} keeper text output replies (ends.Unwritten why) a o a' o' =
    ((a' ≡ a) × output.fails_to_send o why o')
    ⊎ (((told : R) × (sent : O) × Keeps (output.bytes_held o) (output.bytes_held sent) × keeper.fails a told a' × IsLeft keeper told a'
    × FailsToTellLeft keeper text output told replies why sent o')
    ⊎ ((n : ℕ) × Commits keeper n a a' × keeper.has_kept a' × FailsWithin text output replies why o o'))
FailsToClose keeper text output replies other a o a' o' = ⊥

-- how it ends
abbrev pub EndsBatchedBy : {A R I O : Type 0} → Keepers A R → (R → List ℕ) → Inputs I → Outputs O → BatchedEnd → A → I → O → A → I → O → Type 0
EndsBatchedBy {A} {R} {I} {O} keeper text input output ends.Input a i o a' i' o' =
    (turns : List (List ℕ × R)) × (rest : I) × (left : List ℕ) × ServesBatched keeper text input output turns [] [] a i o a' rest o' × (keeper.up a' ≡ true)
    × input.gives rest next.End i' × ReadsLast (input.bytes_left rest) (input.bytes_left i') left
EndsBatchedBy {A} {R} {I} {O} keeper text input output ends.Crashed a i o a' i' o' =
    (turns : List (List ℕ × R)) × ServesBatched keeper text input output turns [] [] a i o a' i' o' × (keeper.up a' ≡ false)
EndsBatchedBy {A} {R} {I} {O} keeper text input output ends.Unreadable a i o a' i' o' =
    (turns : List (List ℕ × R)) × (rest : I) × ServesBatched keeper text input output turns [] [] a i o a' rest o' × (keeper.up a' ≡ true) × input.fails rest i'
EndsBatchedBy {A} {R} {I} {O} keeper text input output ends.Uncommitted a i o a' i' o' =
    (turns waiting : List (List ℕ × R)) × (before : A) × (rest : I) × (sent : O) × (told : R)
    × ServesBatched keeper text input output turns [] waiting a i o before rest sent × DoesNoMore keeper input rest i'
    × keeper.fails before told a' × (keeper.up a' ≡ false) × IsLeft keeper told a' × TellsLeft keeper text output told (replies_in waiting) sent o'
EndsBatchedBy {A} {R} {I} {O} keeper text input output (ends.Unwritten why) a i o a' i' o' =
    (turns unseen waiting : List (List ℕ × R)) × (before : A) × (rest : I) × (sent : O)
    × ServesBatched keeper text input output turns unseen waiting a i o before rest sent × DoesNoMore keeper input rest i'
    × (((a' ≡ before) × output.fails_to_send sent why o')
    ⊎ (((turn : List ℕ × R) × (later : List (List ℕ × R)) × (unseen ≡ turn ∷ later) × (a' ≡ before) × output.fails sent (text turn.1) why o')
    ⊎ ((told : R) × (unseen ≡ []) × keeper.fails before told a' × IsLeft keeper told a'
    × FailsToTellLeft keeper text output told (replies_in waiting) why sent o')))
EndsBatchedBy {A} {R} {I} {O} keeper text input output ends.Spent a i o a' i' o' =
    (turns : List (List ℕ × R)) × ServesBatched keeper text input output turns [] [] a i o a' i' o' × (length turns ≡ 2 ^ 64 - 1)
