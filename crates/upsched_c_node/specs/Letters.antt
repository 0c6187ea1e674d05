-- Letters as structs.
use Rattle.std.specs.Prelude.{◌≡◌, ◌⊎◌, ℕ, ◌<◌, ◌≤◌, ◌^◌, nat_le, ◌&&◌, if◌then◌else◌, List, [], length, map, take}
use Rattle.std.specs.Prelude.{drop, All, Option, Some, None, IsSome, Result, Ok, Err}
use Rattle.ballots.specs.Ballots.{IsBallot}
use Rattle.ballots.specs.Limits.{IsValue, longest_value}
use Rattle.ballots.specs.declared.letters.Cast.{Cast}
use Rattle.ballots.specs.declared.letters.Letter.{Letter}
use Rattle.ballots.specs.declared.letters.Note.{Note}
use Rattle.ballots.specs.declared.letters.Note.TheVariants.{Prepare, Promise, Accept, Voted, Higher, Known}
use Rattle.letter_bytes.specs.Reading.{TakesMemory, is_ballot}
use Rattle.letter_bytes.specs.Spelling.{FitsFront, FitsLetter, Spells, SpellsNone, kind_byte, kind_of, spelling}
use Rattle.letter_bytes.specs.Spelling.{votes_reported}
use Rattle.upsched_c_parts.specs.Fronts.{over_front}
use Rattle.upsched_c_node.specs.Rooms.{Told, told}
use Rattle.upsched_c_node.specs.declared.letter_fields.LetterFields.{LetterFields}
use Rattle.upsched_c_node.specs.declared.letter_fields.VoteFields.{VoteFields}
use Rattle.upsched_c_node.specs.declared.status.Status.{Status}
use Rattle.upsched_c_node.specs.declared.status.Status.TheVariants as statuses

-- the ballot, the place and the value of a note: 0, and no bytes, where it has none
abbrev pub ballot_of : Note → ℕ
ballot_of (Prepare b p) = b
ballot_of (Promise b p votes) = b
ballot_of (Accept b p v) = b
ballot_of (Voted b p v) = b
ballot_of (Higher b) = b
ballot_of (Known p v) = 0

abbrev pub place_of : Note → ℕ
place_of (Prepare b p) = p
place_of (Promise b p votes) = p
place_of (Accept b p v) = p
place_of (Voted b p v) = p
place_of (Higher b) = 0
place_of (Known p v) = p

abbrev pub value_of : Note → List ℕ
value_of (Prepare b p) = []
value_of (Promise b p votes) = []
value_of (Accept b p v) = v
value_of (Voted b p v) = v
value_of (Higher b) = []
value_of (Known p v) = v

-- the vote of these fields, and its place; none where the value is too long or the ballot is none
abbrev pub vote_of : VoteFields → Option (ℕ × Cast)
vote_of f = if nat_le f.value_len longest_value && is_ballot f.ballot then Some (f.place, record { ballot = f.ballot; value = take f.value_len f.value }) else None

-- these fields are a note's, but for its votes
pub record IsNote (f : LetterFields) (note : Note) : Type 0 where
  pub kind : f.kind ≡ kind_byte (kind_of note)
  pub ballot : f.ballot ≡ ballot_of note
  pub place : f.place ≡ place_of note
  pub fits : f.value_len ≤ longest_value
  pub len : f.value_len ≡ length (value_of note)
  pub value : take f.value_len f.value ≡ value_of note

-- and a letter's
pub record AreFields (f : LetterFields) (l : Letter) : Type 0 where
  pub from : f.from ≡ l.from
  pub to : f.to ≡ l.to
  pub note : IsNote f l.note

-- each vote is for a value of the log's length
abbrev pub VotesFit : List (ℕ × Cast) → Type 0
VotesFit rows = All (λ row. IsValue row.1.value) rows

-- and so is the value that the letter carries
abbrev pub ValuesFit : Letter → Type 0
ValuesFit l = IsValue (value_of l.note) × VotesFit (votes_reported l.note)

-- where a letter is told by its fields: these, room for its votes, and how many they are
pub record FieldsAt : Type 0 where
  pub letter : LetterFields
  pub votes : List VoteFields
  pub count : ℕ

abbrev pub fields_at : LetterFields → List VoteFields → ℕ → FieldsAt
fields_at letter votes count = record { letter = letter; votes = votes; count = count }

-- the letter is told there: its fields, and its votes at the front of the room, behind which nothing changed
pub record IsToldAt (l : Letter) (old new : FieldsAt) : Type 0 where
  pub letter : AreFields new.letter l
  pub count : new.count ≡ length (votes_reported l.note)
  pub room : new.count ≤ length old.votes
  pub votes : map vote_of (take new.count new.votes) ≡ map Some (votes_reported l.note)
  pub behind : drop new.count new.votes ≡ drop new.count old.votes
  pub length : length new.votes ≡ length old.votes

-- a letter is told by its fields, unless a value of it is too long, or there are more votes than there is room for
abbrev pub TellsFields : Letter → FieldsAt → FieldsAt → Status → Type 0
TellsFields l old new statuses.Done = ValuesFit l × IsToldAt l old new
TellsFields l old new statuses.NoRoom =
    ValuesFit l × (length old.votes < length (votes_reported l.note)) × (new ≡ record old { count = length (votes_reported l.note) })
TellsFields l old new statuses.BadField = ¬ ValuesFit l × (new ≡ old)
TellsFields l old new _ = ⊥

-- what bytes are read as: a letter that they spell, or a status where they spell none, or where memory is wanted for
-- what they carry
abbrev pub Reads : List ℕ → Result Letter Status → Type 0
Reads bytes (Ok l) = Spells bytes l
Reads bytes (Err statuses.BadField) = SpellsNone bytes
Reads bytes (Err statuses.OutOfMemory) = TakesMemory bytes
Reads bytes (Err _) = ⊥

-- a letter is told by its fields, where one was read, and else nothing changes
abbrev pub TellsRead : Result Letter Status → FieldsAt → FieldsAt → Status → Type 0
TellsRead (Ok l) old new status = TellsFields l old new status
TellsRead (Err unread) old new status = (status ≡ unread) × (new ≡ old)

-- the letter that bytes spell is told by its fields
abbrev pub Decodes : List ℕ → FieldsAt → FieldsAt → Status → Type 0
Decodes bytes old new status = (read : Result Letter Status) × Reads bytes read × TellsRead read old new status

-- the fields, and the votes beside them, are a letter's
pub record AreOf (f : LetterFields) (votes : List VoteFields) (l : Letter) : Type 0 where
  pub letter : AreFields f l
  pub reported : map vote_of votes ≡ map Some (votes_reported l.note)

-- they are some letter's
abbrev pub HasLetter : LetterFields → List VoteFields → Type 0
HasLetter f votes = (l : Letter) × FitsFront l × AreOf f votes l

-- by their kind, with so many votes: the ballot is one, and what the kind hasn't is 0
abbrev pub FitsKind : LetterFields → ℕ → Type 0
FitsKind f n =
    ((f.kind ≡ 1) × IsBallot f.ballot × (f.value_len ≡ 0) × (n ≡ 0))
    ⊎ ((f.kind ≡ 2) × IsBallot f.ballot × (f.value_len ≡ 0))
    ⊎ (((f.kind ≡ 3) ⊎ (f.kind ≡ 4)) × IsBallot f.ballot × (n ≡ 0))
    ⊎ ((f.kind ≡ 5) × IsBallot f.ballot × (f.place ≡ 0) × (f.value_len ≡ 0) × (n ≡ 0))
    ⊎ ((f.kind ≡ 6) × (f.ballot ≡ 0) × (n ≡ 0))

-- each field holds what it may
pub record Fits (f : LetterFields) (votes : List VoteFields) : Type 0 where
  pub from : f.from < 5
  pub to : f.to < 5
  pub value : f.value_len ≤ longest_value
  pub kind : FitsKind f (length votes)
  pub each : All (λ v. IsSome (vote_of v)) votes

-- a letter's bytes are told, whole, or how much room they want; memory is wanted only where the room is enough, or no
-- number says how much they want
abbrev pub TellsBytes : Letter → Told → Told → Status → Type 0
TellsBytes l old new statuses.Done =
    FitsLetter l × (length (spelling l) ≤ length old.room) × (new ≡ told (over_front (spelling l) old.room) (length (spelling l)))
TellsBytes l old new statuses.NoRoom = FitsLetter l × (length old.room < length (spelling l)) × (new ≡ told old.room (length (spelling l)))
TellsBytes l old new statuses.OutOfMemory = ((length (spelling l) ≤ length old.room) ⊎ (2 ^ 64 ≤ length (spelling l))) × (new ≡ old)
TellsBytes l old new _ = ⊥

-- fields are written as the bytes of the letter whose they are, and else nothing changes
abbrev pub Encodes : LetterFields → List VoteFields → Told → Told → Status → Type 0
Encodes f votes old new statuses.BadField = ¬ HasLetter f votes × (new ≡ old)
Encodes f votes old new status = (l : Letter) × FitsFront l × AreOf f votes l × TellsBytes l old new status
