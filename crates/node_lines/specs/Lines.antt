-- The lines of a node, without their ends.
use Rattle.std.specs.Prelude.{◌≡◌, ◌≢◌, ◌⊎◌, ℕ, ◌+◌, ◌*◌, ◌<◌, ◌≤◌, ◌^◌, List, [], ◌∷◌, ◌++◌, length, Ok, Err, IsErr}
use Rattle.std.specs.Prelude.{codes, decimal}
use Rattle.std.specs.List.{flat_map}
use Rattle.std.specs.Str.{IsUtf8}
use Rattle.std.specs.Str.Parse.{IsNumeral, digits_value, without_leading_plus}
use Rattle.hex.specs.Hex.{decode_of, encode_lower}
use Rattle.ballots.specs.declared.letters.Cast.{Cast}
use Rattle.ballots.specs.declared.letters.Letter.{Letter}
use Rattle.command_log.specs.Spelling.{spelling as command_spelling}
use Rattle.grant_machine.specs.declared.command.Command.{Command}
use Rattle.letter_bytes.specs.Longest.{longest_letter}
use Rattle.letter_bytes.specs.Reading.{TakesMemory, letter_of}
use Rattle.letter_bytes.specs.Spelling.{Spells, spelling, vote_spelling}
use Rattle.node_lines.specs.Commands.{IsCommandLine, IsCommandText, command_word, longest_command}
use Rattle.node_lines.specs.declared.request.Request.{Request}
use Rattle.node_lines.specs.declared.request.Request.TheVariants as request
use Rattle.node_lines.specs.declared.fault.LineFault.{LineFault}
use Rattle.node_lines.specs.declared.fault.LineFault.TheVariants as fault

-- the words before digits
abbrev pub offer_word : List ℕ
offer_word = codes "offer "

abbrev pub release_word : List ℕ
release_word = codes "release "

abbrev pub letter_word : List ℕ
letter_word = codes "letter "

abbrev pub tell_word : List ℕ
tell_word = codes "tell "

-- decimal digits of a number of 64 bits, as `parse` reads it: a plus may stand before them
pub record IsNumberText (digits : List ℕ) (n : ℕ) : Type 0 where
  pub text : IsUtf8 digits
  pub numeral : IsNumeral 10 (without_leading_plus digits)
  pub value : digits_value 10 (without_leading_plus digits) ≡ n
  pub fits : n < 2 ^ 64

-- hexadecimal digits of a letter's bytes
pub record IsLetterText (digits : List ℕ) (l : Letter) : Type 0 where
  pub bytes : List ℕ
  pub decoded : decode_of digits ≡ Ok bytes
  pub spells : Spells bytes l

-- a node's number in one digit, a blank, and the digits of a place
pub record IsTellText (words : List ℕ) (to place : ℕ) : Type 0 where
  pub digits : List ℕ
  pub is : words ≡ (48 + to) ∷ 32 ∷ digits
  pub node : to < 5
  pub number : IsNumberText digits place

-- a line offers these bytes by their digits
abbrev pub IsDigitsOffer : List ℕ → List ℕ → Type 0
IsDigitsOffer line value = (digits : List ℕ) × (line ≡ offer_word ++ digits) × (decode_of digits ≡ Ok value)

-- a line offers these bytes by the command that they are
abbrev pub IsCommandOffer : List ℕ → List ℕ → Type 0
IsCommandOffer line value = IsCommandLine line × (length line ≤ longest_command) × (c : Command) × IsCommandText line c × (value ≡ command_spelling c)

-- a line asks this
abbrev pub Asks : List ℕ → Request → Type 0
Asks line request.Lead = line ≡ codes "lead"
Asks line (request.Offer value) = IsDigitsOffer line value ⊎ IsCommandOffer line value
Asks line (request.Release now) = (digits : List ℕ) × (line ≡ release_word ++ digits) × IsNumberText digits now
Asks line (request.Letter l) = (digits : List ℕ) × (line ≡ letter_word ++ digits) × IsLetterText digits l
Asks line (request.Tell to place) = (words : List ℕ) × (line ≡ tell_word ++ words) × IsTellText words to place

-- a line asks nothing
abbrev pub AsksNothing : List ℕ → Type 0
AsksNothing line = (r : Request) → ¬ Asks line r

-- no line that begins with this word
abbrev pub BeginsOther : List ℕ → List ℕ → Type 0
BeginsOther word line = (digits : List ℕ) → line ≢ word ++ digits

-- none of the lines that a node reads
pub record IsNoLine (line : List ℕ) : Type 0 where
  pub lead : line ≢ codes "lead"
  pub offer : BeginsOther offer_word line
  pub command : BeginsOther command_word line
  pub release : BeginsOther release_word line
  pub letter : BeginsOther letter_word line
  pub tell : BeginsOther tell_word line

-- why digits are no letter
abbrev pub IsNoLetter : List ℕ → LineFault → Type 0
IsNoLetter digits fault.NoLine = ⊥
IsNoLetter digits fault.NoHex = IsErr (decode_of digits)
IsNoLetter digits fault.NoNumber = ⊥
IsNoLetter digits fault.NoCommand = ⊥
IsNoLetter digits (fault.NoLetter why) = (bytes : List ℕ) × (decode_of digits ≡ Ok bytes) × (letter_of bytes ≡ Err why)
IsNoLetter digits fault.OutOfMemory = (bytes : List ℕ) × (decode_of digits ≡ Ok bytes) × TakesMemory bytes
IsNoLetter digits fault.TooLong = ⊥

-- why a line asks nothing; want of memory comes only behind a value of a letter, or of a command
abbrev pub IsRefused : List ℕ → LineFault → Type 0
IsRefused line fault.NoLine = IsNoLine line
IsRefused line fault.NoHex =
    ((digits : List ℕ) × (line ≡ offer_word ++ digits) × IsErr (decode_of digits))
    ⊎ ((digits : List ℕ) × (line ≡ letter_word ++ digits) × IsNoLetter digits fault.NoHex)
IsRefused line fault.NoNumber =
    ((digits : List ℕ) × (line ≡ release_word ++ digits) × ((n : ℕ) → ¬ IsNumberText digits n))
    ⊎ ((words : List ℕ) × (line ≡ tell_word ++ words) × ((to place : ℕ) → ¬ IsTellText words to place))
IsRefused line fault.NoCommand = IsCommandLine line × (length line ≤ longest_command) × ((c : Command) → ¬ IsCommandText line c)
IsRefused line (fault.NoLetter why) = (digits : List ℕ) × (line ≡ letter_word ++ digits) × IsNoLetter digits (fault.NoLetter why)
IsRefused line fault.OutOfMemory =
    ((digits : List ℕ) × (line ≡ letter_word ++ digits) × IsNoLetter digits fault.OutOfMemory) ⊎ (IsCommandLine line × (length line ≤ longest_command))
IsRefused line fault.TooLong = IsCommandLine line × (longest_command < length line)

-- the number of a fault
abbrev pub fault_number : LineFault → ℕ
fault_number fault.NoLine = 1
fault_number fault.NoHex = 2
fault_number fault.NoNumber = 3
fault_number fault.NoCommand = 4
fault_number (fault.NoLetter why) = 5
fault_number fault.OutOfMemory = 6
fault_number fault.TooLong = 7

-- the digits of a vote and its place
abbrev pub vote_digits : ℕ × Cast → List ℕ
vote_digits row = encode_lower (vote_spelling row)

-- the line by which a letter goes out, with its end: to whom, and its bytes
abbrev pub letter_line : Letter → List ℕ
letter_line l = letter_word ++ (decimal l.to ++ (codes " " ++ (encode_lower (spelling l) ++ 10 ∷ [])))

-- the lines of letters
abbrev pub letter_lines : List Letter → List ℕ
letter_lines ls = flat_map letter_line ls

-- the most bytes of a line: the word before a letter, and two digits for each byte of the longest letter
abbrev pub longest_line : ℕ
longest_line = length letter_word + 2 * longest_letter
