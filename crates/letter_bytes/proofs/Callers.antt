-- Lemmas for the crates above.
use Rattle.std.proofs.Common.{◌≡◌, Ok}
use Rattle.ballots.specs.declared.letters.Letter.{Letter}
use Rattle.letter_bytes.specs.Spelling.{FitsLetter, spelling}
use Rattle.letter_bytes.specs.Reading.{letter_of}
pub use Rattle.letter_bytes.proofs.Longest.{letter-at_most, letter-longest}
use Rattle.letter_bytes.proofs.Notes.{letter_again}

-- each letter is read from its spelling
pub read_again : (l : Letter) → FitsLetter l → letter_of (spelling l) ≡ Ok l
read_again l fits = letter_again l fits
