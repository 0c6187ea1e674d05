-- Letters as bytes, one spelling a letter (this project's format): a byte for the kind of note, one for the sender, one
-- for the receiver, and the note's fields, numbers in eight bytes, most significant first.
use Rattle.std.specs.Prelude.{◌≡◌, ℕ, ◌<◌, ◌^◌, List, [], ◌∷◌, ◌++◌, length, All}
use Rattle.std.specs.List.{flat_map}
use Rattle.std.specs.Int.{w64, to_be_bytes}
use Rattle.ballots.specs.Ballots.{IsBallot}
use Rattle.ballots.specs.declared.letters.Cast.{Cast}
use Rattle.ballots.specs.declared.letters.Letter.{Letter}
use Rattle.ballots.specs.declared.letters.Note.{Note}
use Rattle.ballots.specs.declared.letters.Note.TheVariants.{Prepare, Promise, Accept, Voted, Higher, Known}
use Rattle.letter_bytes.specs.declared.kind.Kind.{Kind}
use Rattle.letter_bytes.specs.declared.kind.Kind.TheVariants as kinds

-- a number
unfoldable pub number : ℕ → List ℕ
number n = to_be_bytes w64 n

-- how many bytes a value has, and these
abbrev pub value_spelling : List ℕ → List ℕ
value_spelling v = number (length v) ++ v

-- a place, and the ballot and the value of the vote there
abbrev pub vote_spelling : ℕ × Cast → List ℕ
vote_spelling row = number row.0 ++ (number row.1.ballot ++ value_spelling row.1.value)

-- the kind of a note
abbrev pub kind_of : Note → Kind
kind_of (Prepare b p) = kinds.Prepare
kind_of (Promise b p votes) = kinds.Promise
kind_of (Accept b p v) = kinds.Accept
kind_of (Voted b p v) = kinds.Voted
kind_of (Higher b) = kinds.Higher
kind_of (Known p v) = kinds.Known

-- the byte of a kind
abbrev pub kind_byte : Kind → ℕ
kind_byte kinds.Prepare = 1
kind_byte kinds.Promise = 2
kind_byte kinds.Accept = 3
kind_byte kinds.Voted = 4
kind_byte kinds.Higher = 5
kind_byte kinds.Known = 6

-- the fields of a note, up to how many votes it reports
abbrev pub fields_spelling : Note → List ℕ
fields_spelling (Prepare b p) = number b ++ number p
fields_spelling (Promise b p votes) = number b ++ (number p ++ number (length votes))
fields_spelling (Accept b p v) = number b ++ (number p ++ value_spelling v)
fields_spelling (Voted b p v) = number b ++ (number p ++ value_spelling v)
fields_spelling (Higher b) = number b
fields_spelling (Known p v) = number p ++ value_spelling v

-- the votes that a note reports
abbrev pub votes_reported : Note → List (ℕ × Cast)
votes_reported (Prepare b p) = []
votes_reported (Promise b p votes) = votes
votes_reported (Accept b p v) = []
votes_reported (Voted b p v) = []
votes_reported (Higher b) = []
votes_reported (Known p v) = []

-- all of a letter but its votes
abbrev pub front_spelling : Letter → List ℕ
front_spelling l = kind_byte (kind_of l.note) ∷ l.from ∷ l.to ∷ fields_spelling l.note

-- the bytes of a letter
abbrev pub spelling : Letter → List ℕ
spelling l = front_spelling l ++ flat_map vote_spelling (votes_reported l.note)

-- a number that eight bytes hold
abbrev pub IsNumber : ℕ → Type 0
IsNumber n = n < 2 ^ 64

-- a value whose length is such a number
abbrev pub IsCounted : List ℕ → Type 0
IsCounted v = IsNumber (length v)

-- a vote and its place have a spelling
pub record FitsVote (row : ℕ × Cast) : Type 0 where
  pub place : IsNumber row.0
  pub ballot : IsBallot row.1.ballot
  pub value : IsCounted row.1.value

-- the fields of a note, but for its votes, have a spelling
abbrev pub FitsFields : Note → Type 0
FitsFields (Prepare b p) = IsBallot b × IsNumber p
FitsFields (Promise b p votes) = IsBallot b × IsNumber p × IsNumber (length votes)
FitsFields (Accept b p v) = IsBallot b × IsNumber p × IsCounted v
FitsFields (Voted b p v) = IsBallot b × IsNumber p × IsCounted v
FitsFields (Higher b) = IsBallot b
FitsFields (Known p v) = IsNumber p × IsCounted v

-- the front of a letter has a spelling
pub record FitsFront (l : Letter) : Type 0 where
  pub from : l.from < 5
  pub to : l.to < 5
  pub fields : FitsFields l.note

-- a letter has a spelling
pub record FitsLetter (l : Letter) : Type 0 where
  pub front : FitsFront l
  pub votes : All FitsVote (votes_reported l.note)

-- the bytes spell the letter
abbrev pub Spells : List ℕ → Letter → Type 0
Spells bytes l = FitsLetter l × (bytes ≡ spelling l)

-- the bytes spell no letter
abbrev pub SpellsNone : List ℕ → Type 0
SpellsNone bytes = (l : Letter) → ¬ Spells bytes l
