-- Reading a letter from left to right, up to the first fault.
use Rattle.std.specs.Prelude.{◌≡◌, ℕ, zero, suc, ◌<◌, ◌^◌, ◌%◌, ◌&&◌, Bool, List, [], ◌∷◌, length, take, drop, Result}
use Rattle.std.specs.Prelude.{Ok, Err, IsOk, IsOkAnd, slice_index, nat_lt, nat_le, ◌==◌, if◌then◌else◌}
use Rattle.std.specs.Int.{w64, from_be_bytes}
use Rattle.ballots.specs.declared.letters.Cast.{Cast}
use Rattle.ballots.specs.declared.letters.Letter.{Letter}
use Rattle.ballots.specs.declared.letters.Note.{Note}
use Rattle.ballots.specs.declared.letters.Note.TheVariants.{Prepare, Promise, Accept, Voted, Higher, Known}
use Rattle.letter_bytes.specs.declared.fault.LetterFault.{LetterFault}
use Rattle.letter_bytes.specs.declared.fault.LetterFault.TheVariants.{Short, NoNote, NoNode, NoBallot, Trailing}
use Rattle.letter_bytes.specs.declared.fault.LetterFault.TheVariants.{OutOfMemory}
use Rattle.letter_bytes.specs.declared.kind.Kind.{Kind}
use Rattle.letter_bytes.specs.declared.kind.Kind.TheVariants as kinds

-- what was read, or the first fault
abbrev pub Read : Type 0 → Type 0
Read X = Result X LetterFault

infixl 10 ◌>>=◌
abbrev pub ◌>>=◌ : {A B : Type 0} → Read A → (A → Read B) → Read B
(Ok x) >>= f = f x
(Err e) >>= f = Err e

-- a fault is the first one, and want of memory comes only so
abbrev pub FailsReading : {Y : Type 0} → (lack : Type 0) → LetterFault → Read Y → Type 0
FailsReading lack OutOfMemory read = lack
FailsReading lack fault read = read ≡ Err fault

-- an answer is what reading gives
abbrev pub Gives : {X : Type 0} → (lack : Type 0) → Read X → Read X → Type 0
Gives lack (Ok x) read = read ≡ Ok x
Gives lack (Err e) read = FailsReading lack e read

-- the same of a field that is taken off the front of bytes, with the bytes behind it
abbrev pub Takes : {X : Type 0} → (lack : Type 0) → Read X → List ℕ → Read (X × List ℕ) → Type 0
Takes lack (Ok x) behind read = read ≡ Ok (x, behind)
Takes lack (Err e) behind read = FailsReading lack e read

-- A field is read as its value and the bytes behind it. A byte
abbrev pub byte_at : List ℕ → Read (ℕ × List ℕ)
byte_at [] = Err Short
byte_at (b ∷ rest) = Ok (b, rest)

-- a number
abbrev pub number_at : List ℕ → Read (ℕ × List ℕ)
number_at bytes = if nat_lt (length bytes) 8 then Err Short else Ok (from_be_bytes w64 (take 8 bytes), drop 8 bytes)

-- the kind of a byte
abbrev pub kind_by : ℕ → Read Kind
kind_by byte =
    if byte == 1 then Ok kinds.Prepare
    else if byte == 2 then Ok kinds.Promise
    else if byte == 3 then Ok kinds.Accept
    else if byte == 4 then Ok kinds.Voted
    else if byte == 5 then Ok kinds.Higher
    else if byte == 6 then Ok kinds.Known
    else Err NoNote

abbrev pub kind_at : List ℕ → Read (Kind × List ℕ)
kind_at bytes = do
  byte ← byte_at bytes
  kind ← kind_by byte.0
  Ok (kind, byte.1)

-- the node of a number
abbrev pub node_by : ℕ → Read ℕ
node_by n = if nat_lt n 5 then Ok n else Err NoNode

abbrev pub node_at : List ℕ → Read (ℕ × List ℕ)
node_at bytes = do
  byte ← byte_at bytes
  node ← node_by byte.0
  Ok (node, byte.1)

-- whether a number is a ballot
abbrev pub is_ballot : ℕ → Bool
is_ballot b = nat_le 8 b && (nat_lt b (2 ^ 43) && nat_lt (b % 8) 5)

-- the ballot of a number
abbrev pub ballot_by : ℕ → Read ℕ
ballot_by n = if is_ballot n then Ok n else Err NoBallot

abbrev pub ballot_at : List ℕ → Read (ℕ × List ℕ)
ballot_at bytes = do
  number ← number_at bytes
  ballot ← ballot_by number.0
  Ok (ballot, number.1)

-- a value, its length before it
unfoldable pub value_at : List ℕ → Read (List ℕ × List ℕ)
value_at bytes = do
  n ← number_at bytes
  if nat_lt (length n.1) n.0 then Err Short else Ok (take n.0 n.1, drop n.0 n.1)

-- a vote with its place
unfoldable pub vote_at : List ℕ → Read ((ℕ × Cast) × List ℕ)
vote_at bytes = do
  place ← number_at bytes
  ballot ← ballot_at place.1
  value ← value_at ballot.1
  Ok ((place.0, record { ballot = ballot.0; value = value.0 }), value.1)

-- so many votes
unfoldable pub votes_in : ℕ → List ℕ → Read (List (ℕ × Cast) × List ℕ)
votes_in zero bytes = Ok ([], bytes)
votes_in (suc n) bytes = do
  first ← vote_at bytes
  others ← votes_in n first.1
  Ok (first.0 ∷ others.0, others.1)

-- what stands before the votes of a promise: its ballot, its place, and how many there are
unfoldable pub promised_at : List ℕ → Read ((ℕ × ℕ × ℕ) × List ℕ)
promised_at bytes = do
  ballot ← ballot_at bytes
  place ← number_at ballot.1
  count ← number_at place.1
  Ok ((ballot.0, place.0, count.0), count.1)

-- the fields of a note of each kind
abbrev pub prepare_at : List ℕ → Read (Note × List ℕ)
prepare_at bytes = do
  ballot ← ballot_at bytes
  place ← number_at ballot.1
  Ok (Prepare ballot.0 place.0, place.1)

abbrev pub promise_at : List ℕ → Read (Note × List ℕ)
promise_at bytes = do
  promised ← promised_at bytes
  votes ← votes_in promised.0.2 promised.1
  Ok (Promise promised.0.0 promised.0.1 votes.0, votes.1)

-- a note of a ballot, a place and a value
abbrev pub valued_at : (ℕ → ℕ → List ℕ → Note) → List ℕ → Read (Note × List ℕ)
valued_at note bytes = do
  ballot ← ballot_at bytes
  place ← number_at ballot.1
  value ← value_at place.1
  Ok (note ballot.0 place.0 value.0, value.1)

abbrev pub higher_at : List ℕ → Read (Note × List ℕ)
higher_at bytes = do
  ballot ← ballot_at bytes
  Ok (Higher ballot.0, ballot.1)

abbrev pub known_at : List ℕ → Read (Note × List ℕ)
known_at bytes = do
  place ← number_at bytes
  value ← value_at place.1
  Ok (Known place.0 value.0, value.1)

-- the fields of a note of this kind
abbrev pub note_at : Kind → List ℕ → Read (Note × List ℕ)
note_at kinds.Prepare bytes = prepare_at bytes
note_at kinds.Promise bytes = promise_at bytes
note_at kinds.Accept bytes = valued_at Accept bytes
note_at kinds.Voted bytes = valued_at Voted bytes
note_at kinds.Higher bytes = higher_at bytes
note_at kinds.Known bytes = known_at bytes

-- a letter's kind of note, its nodes, and the bytes behind these
abbrev pub address_at : List ℕ → Read ((Kind × ℕ × ℕ) × List ℕ)
address_at bytes = do
  kind ← kind_at bytes
  from ← node_at kind.1
  to ← node_at from.1
  Ok ((kind.0, from.0, to.0), to.1)

-- the letter of all of the bytes
unfoldable pub letter_of : List ℕ → Read Letter
letter_of bytes = do
  address ← address_at bytes
  note ← note_at address.0.0 address.1
  if length note.1 == 0 then Ok (record { from = address.0.1; to = address.0.2; note = note.0 }) else Err Trailing

-- Memory is taken for values and votes alone, each once it was read. Of so many votes there is a first one, without a
-- fault
abbrev pub HasVote : ℕ → List ℕ → Type 0
HasVote count bytes = (0 < count) × IsOk (vote_at bytes)

-- among the fields of a note of this kind there is a value, and up to its end no fault
abbrev pub HasValue : Kind → List ℕ → Type 0
HasValue kinds.Prepare bytes = ⊥
HasValue kinds.Promise bytes = IsOkAnd (promised_at bytes) (λ promised. HasVote promised.0.2 promised.1)
HasValue kinds.Accept bytes = IsOk (valued_at Accept bytes)
HasValue kinds.Voted bytes = IsOk (valued_at Voted bytes)
HasValue kinds.Higher bytes = ⊥
HasValue kinds.Known bytes = IsOk (known_at bytes)

-- a letter has a value, and up to its end no fault
abbrev pub TakesMemory : List ℕ → Type 0
TakesMemory bytes = IsOkAnd (address_at bytes) (λ address. HasValue address.0.0 address.1)

-- each element is a byte
abbrev pub AreBytes : List ℕ → Type 0
AreBytes bytes = (i : ℕ) → slice_index bytes i < 2 ^ 8
