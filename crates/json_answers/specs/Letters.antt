-- Letters as JSON. Values are hexadecimal in lower case; the empty one is an empty text.
use Rattle.std.specs.Prelude.{ℕ, ◌+◌, List, [], ◌∷◌, codes, map}
use Rattle.hex.specs.Hex.{encode_lower}
use Rattle.ballots.specs.declared.letters.Cast.{Cast}
use Rattle.ballots.specs.declared.letters.Letter.{Letter}
use Rattle.ballots.specs.declared.letters.Note.{Note}
use Rattle.ballots.specs.declared.letters.Note.TheVariants.{Prepare, Promise, Accept, Voted, Higher, Known}
use Rattle.serde_json.specs.Data.{Data, array, object, Members, no_members, put}
use Rattle.serde_json.specs.View.{items_of}
use Rattle.json_outputs.specs.Fields.{with_number, with_text, with_time}
use Rattle.command_words.specs.Commands.{value_text}

-- with a ballot: a text, in decimal, as times are
abbrev pub with_ballot : ℕ → Members → Members
with_ballot ballot ms = with_time (codes "ballot") ballot ms

-- the command that a value spells
unfoldable pub words_of : List ℕ → List ℕ
words_of value = value_text value

-- with the bytes of a value, and the command that it spells
abbrev pub with_value : List ℕ → Members → Members
with_value value ms = with_text (codes "command") (words_of value) (with_text (codes "value") (encode_lower value) ms)

-- with a ballot, a place, and the value that is for it
abbrev pub with_cast : (ballot place : ℕ) → List ℕ → Members → Members
with_cast ballot place value ms = with_value value (with_number (codes "place") place (with_ballot ballot ms))

-- a vote that a promise reports
abbrev pub vote_data : ℕ × Cast → Data
vote_data row = object (with_cast row.1.ballot row.0 row.1.value no_members)

-- with the votes of a promise, in order
abbrev pub with_votes : List (ℕ × Cast) → Members → Members
with_votes votes ms = put (codes "votes") (array (items_of (map vote_data votes))) ms

-- with what a letter says: its kind, and its fields by name
abbrev pub with_note : Note → Members → Members
with_note (Prepare ballot place) ms = with_number (codes "place") place (with_ballot ballot (with_text (codes "kind") (codes "prepare") ms))
with_note (Promise ballot place votes) ms =
    with_votes votes (with_number (codes "place") place (with_ballot ballot (with_text (codes "kind") (codes "promise") ms)))
with_note (Accept ballot place value) ms = with_cast ballot place value (with_text (codes "kind") (codes "accept") ms)
with_note (Voted ballot place value) ms = with_cast ballot place value (with_text (codes "kind") (codes "voted") ms)
with_note (Higher ballot) ms = with_ballot ballot (with_text (codes "kind") (codes "higher") ms)
with_note (Known place value) ms = with_value value (with_number (codes "place") place (with_text (codes "kind") (codes "known") ms))

-- the letter of this number: who sends it to whom, and what it says
abbrev pub letter_data : ℕ → Letter → Data
letter_data n l = object
    (with_note l.note (with_number (codes "to") l.to (with_number (codes "from") l.from (with_number (codes "letter") n no_members))))

-- letters in order, numbered from n on
abbrev pub letters_from : ℕ → List Letter → List Data
letters_from n [] = []
letters_from n (l ∷ ls) = letter_data n l ∷ letters_from (n + 1) ls

-- with letters in order, numbered from n on
abbrev pub with_letters : List ℕ → ℕ → List Letter → Members → Members
with_letters key n ls ms = put key (array (items_of (letters_from n ls))) ms
