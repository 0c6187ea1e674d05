-- Where journals are torn, and why.
use Rattle.std.specs.Prelude.{◌≡◌, ◌≢◌, ◌⊎◌, ℕ, ◌+◌, ◌<◌, ◌≤◌, ◌==◌, List, [], ◌∷◌, ◌++◌, length, take, drop, filter}
use Rattle.std.specs.Prelude.{MatchOption, Option, slice_get, Some, None, Contains}
use Rattle.ballots.specs.Members.{member_count}
use Rattle.ballots.specs.declared.members.Members.{Members}
use Rattle.ballots.specs.declared.letters.Letter.{Letter}
use Rattle.node.specs.Calls.{IsStop}
use Rattle.node.specs.View.{Standing}
use Rattle.node_journal.specs.Journal.{Writes, fresh_head, restarted_head}
use Rattle.node_journal.specs.Turns.{BeginsWith, IsTurn}
use Rattle.node_journal.specs.declared.phase.Phase.{Phase}
use Rattle.node_journal.specs.declared.phase.Phase.TheVariants.{Unborn, Up, Down as Crashed}
use Rattle.node_journal.specs.declared.tear.Tear.{Tear}
use Rattle.node_journal.specs.declared.tear.Why.{Why}
use Rattle.node_journal.specs.declared.tear.Why.TheVariants.{OtherReply, Unsent, NoLine}
use Rattle.node_lines.specs.Input.{IsLine}
use Rattle.node_lines.specs.Lines.{Asks}
use Rattle.node_lines.specs.declared.fault.LineFault.{LineFault}
use Rattle.node_lines.specs.declared.request.Request.{Request}
use Rattle.node_lines.specs.declared.request.Request.TheVariants as request
use Rattle.node_service.specs.Incoming.{IsTurnedAway}
use Rattle.node_service.specs.Texts.{acted_text, refused_text}
use Rattle.node_worker.specs.Entries.{EntryView}
use Rattle.node_worker.specs.Legal.{IsSound, entries_of, letters_of}
use Rattle.node_worker.specs.Replays.{ReplaysTo}
use Rattle.node_worker.specs.declared.entry.Done.{Done}
use Rattle.proposer.specs.declared.fault.NodeFault.{NodeFault}
use Rattle.seats.specs.declared.acted.Acted.TheVariants.{Fault}

-- the number of the line in which a place of a text stands, from 1 on
abbrev pub line_of : List ℕ → ℕ → ℕ
line_of text place = length (filter (λ byte. byte == 10) (take place text)) + 1

-- a byte stands there with which no life begins
abbrev pub GoesOn : List ℕ → ℕ → Type 0
GoesOn text place = MatchOption (slice_get text place) ⊥ (λ byte. byte ≢ 10)

-- the text has another byte there than the reply has at a place of its own, and with it no life begins
abbrev pub GoesOtherwise : List ℕ → ℕ → List ℕ → ℕ → Type 0
GoesOtherwise text place reply at = MatchOption (slice_get text place) ⊥ (λ byte. MatchOption (slice_get reply at) ⊥ (λ owed. (byte ≢ 10) × (byte ≢ owed)))

-- what node me, which did this, replies to a line: that it is refused, or what comes of what it asks
abbrev pub Gives : ℕ → Members → List EntryView → List ℕ → List ℕ → Type 0
Gives me members done line reply =
    ((why : LineFault) × IsTurnedAway line why × (reply ≡ refused_text why))
    ⊎ ((e : EntryView) × IsTurn line e reply × ((t : Standing) × ReplaysTo (member_count members) me (done ++ e ∷ []) t))

-- the place is within a reply, or right before it: so far the journal is what the node writes, and then it goes on
-- otherwise
pub record IsOtherReply (me : ℕ) (members : Members) (journal : List ℕ) (place : ℕ) : Type 0 where
  pub before : List ℕ
  pub done : List EntryView
  pub up : Writes me members before done Up
  pub line : List ℕ
  pub whole : IsLine line
  pub reply : List ℕ
  pub gives : Gives me members done line reply
  pub part : List ℕ
  pub begins : BeginsWith part reply
  pub so_far : take place journal ≡ before ++ (line ++ 10 ∷ part)
  pub otherwise : GoesOtherwise journal place reply (length part)

-- behind this text a life has to begin, or to go on with its first lines: it is empty, it ends within those lines, or
-- with the whole reply that the node crashed
pub data IsAtLife (me : ℕ) (members : Members) : List ℕ → Type 0 where
  at_first : IsAtLife me members []
  in_first : (text part : List ℕ) (done : List EntryView) → Writes me members text done Unborn → BeginsWith part (fresh_head me members) → part ≢ []
      → IsAtLife me members (text ++ part)
  in_next : (text part : List ℕ) (done : List EntryView) → Writes me members text done Crashed → BeginsWith part (restarted_head me members) → part ≢ []
      → IsAtLife me members (text ++ part)
  behind_crash : (text line : List ℕ) (done : List EntryView) (asked : Request) (fault : NodeFault) → Writes me members text done Up → IsLine line → Asks line asked → IsStop fault
      → IsAtLife me members (text ++ (line ++ 10 ∷ acted_text (Fault fault)))

-- node me, which did this, wrote the journal up to the place, and there it reads a letter
pub record IsAtLetter (me : ℕ) (members : Members) (journal : List ℕ) (done : List EntryView) (place : ℕ) (letter : Letter) : Type 0 where
  pub up : Writes me members (take place journal) done Up
  pub line : List ℕ
  pub after : List ℕ
  pub behind : drop place journal ≡ line ++ 10 ∷ after
  pub whole : IsLine line
  pub asks : Asks line (request.Letter letter)

-- no line of this journal goes on there: no life, where one has to; or a letter that is to another, or from no member
abbrev pub IsNoLine : ℕ → Members → List ℕ → ℕ → Type 0
IsNoLine me members journal place =
    (IsAtLife me members (take place journal) × GoesOn journal place)
    ⊎ ((done : List EntryView) × (letter : Letter) × IsAtLetter me members journal done place letter × ((letter.to ≢ me) ⊎ (member_count members ≤ letter.from)))

-- node me, which did this, wrote its journal up to its end, or up to a letter that wasn't sent to it
abbrev pub StandsStill : List Letter → ℕ → Members → List ℕ → List EntryView → Type 0
StandsStill sent me members journal done =
    ((phase : Phase) × Writes me members journal done phase)
    ⊎ ((place : ℕ) × (letter : Letter) × IsAtLetter me members journal done place letter × ¬ ((letter.to ≡ me) × Contains sent letter))

-- the members did these records, and each journal before journal k is followed with them to its end
abbrev pub AreEndedBefore : Members → List (List ℕ) → ℕ → List Done → Type 0
AreEndedBefore members journals k records =
    (j : ℕ) (text : List ℕ) → j < k → slice_get journals j ≡ Some text → (phase : Phase) × Writes j members text (entries_of j records) phase

-- the members did records with which journal k is followed up to a place, and each journal before it as far as it goes
pub record IsFirst (members : Members) (journals : List (List ℕ)) (k : ℕ) (journal : List ℕ) (place : ℕ) : Type 0 where
  pub records : List Done
  pub sound : IsSound (member_count members) records
  pub here : (phase : Phase) × Writes k members (take place journal) (entries_of k records) phase
  pub before : (j : ℕ) (text : List ℕ) → j < k → slice_get journals j ≡ Some text → StandsStill (letters_of records) j members text (entries_of j records)

-- the journals are followed as far as they go, and there journal k reads a letter of member n that wasn't sent, where
-- each journal before it is at its end
pub record IsUnsent (members : Members) (journals : List (List ℕ)) (k : ℕ) (journal : List ℕ) (place n : ℕ) : Type 0 where
  pub records : List Done
  pub sound : IsSound (member_count members) records
  pub still : (j : ℕ) (text : List ℕ) → slice_get journals j ≡ Some text → StandsStill (letters_of records) j members text (entries_of j records)
  pub ended : AreEndedBefore members journals k records
  pub letter : Letter
  pub reads : IsAtLetter k members journal (entries_of k records) place letter
  pub to : letter.to ≡ k
  pub from : letter.from ≡ n
  pub member : n < member_count members
  pub unsent : ¬ Contains (letters_of records) letter

-- the member whose letter is named
abbrev pub sender_of : Why → Option ℕ
sender_of (Unsent n) = Some n
sender_of other = None

-- why a journal is the first that doesn't go on, and at which place
abbrev pub IsWhy : Members → List (List ℕ) → ℕ → List ℕ → ℕ → Why → Type 0
IsWhy members journals k journal place OtherReply = IsOtherReply k members journal place × IsFirst members journals k journal place
IsWhy members journals k journal place (Unsent n) = IsUnsent members journals k journal place n
IsWhy members journals k journal place NoLine = IsNoLine k members journal place × IsFirst members journals k journal place

-- there are as many journals as members, and the one that is named is the first that doesn't go on, in this line, and
-- this is why; or there are not, and none of them is named
abbrev pub IsTear : Members → List (List ℕ) → Tear → Type 0
IsTear members journals tear =
    ((length journals ≡ member_count members)
    × ((journal : List ℕ) × (place : ℕ) × (slice_get journals tear.journal ≡ Some journal) × (tear.line ≡ line_of journal place) × IsWhy members journals tear.journal journal place tear.why))
    ⊎ ((length journals ≢ member_count members) × (tear.journal ≡ length journals) × (tear.line ≡ 1) × (tear.why ≡ NoLine))
