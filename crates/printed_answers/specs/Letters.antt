-- Letters as text. Numbers are decimal, and bytes are hexadecimal in lower case without spaces.
use Rattle.std.specs.Prelude.{ℕ, List, [], ◌++◌, codes, decimal}
use Rattle.std.specs.List.{flat_map}
use Rattle.hex.specs.Hex.{encode_lower}
use Rattle.ballots.specs.declared.letters.Cast.{Cast}
use Rattle.ballots.specs.declared.letters.Letter.{Letter}
use Rattle.ballots.specs.declared.letters.Note.{Note}
use Rattle.ballots.specs.declared.letters.Note.TheVariants.{Prepare, Promise, Accept, Voted, Higher, Known}

-- the bytes of a value, or that it has none
abbrev pub value_text : List ℕ → List ℕ
value_text [] = codes "none"
value_text bytes = encode_lower bytes

-- a place, and the value that goes with it
abbrev pub placed_text : ℕ → List ℕ → List ℕ
placed_text place value = codes "place " ++ (decimal place ++ (codes " value " ++ value_text value))

-- a vote that a promise reports, and all of them
abbrev pub vote_text : ℕ × Cast → List ℕ
vote_text row = codes " vote ballot " ++ (decimal row.1.ballot ++ (codes " " ++ placed_text row.0 row.1.value))

abbrev pub votes_text : List (ℕ × Cast) → List ℕ
votes_text votes = flat_map vote_text votes

-- what a letter says: its kind, and its fields by name
abbrev pub note_text : Note → List ℕ
note_text (Prepare ballot place) = codes "prepare ballot " ++ (decimal ballot ++ (codes " place " ++ decimal place))
note_text (Promise ballot place votes) = codes "promise ballot " ++ (decimal ballot ++ (codes " place " ++ (decimal place ++ votes_text votes)))
note_text (Accept ballot place value) = codes "accept ballot " ++ (decimal ballot ++ (codes " " ++ placed_text place value))
note_text (Voted ballot place value) = codes "voted ballot " ++ (decimal ballot ++ (codes " " ++ placed_text place value))
note_text (Higher ballot) = codes "higher ballot " ++ decimal ballot
note_text (Known place value) = codes "known " ++ placed_text place value

-- a letter: who sends it to whom, and what it says
abbrev pub letter_text : Letter → List ℕ
letter_text l = codes "from " ++ (decimal l.from ++ (codes " to " ++ (decimal l.to ++ (codes " " ++ note_text l.note))))
