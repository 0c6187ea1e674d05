-- The number before a line: an epoch, and the places of an epoch that count for who writes it.
use Rattle.std.specs.Prelude.{◌≡◌, ℕ, ◌<◌, ◌≤◌, ◌^◌, List, ◌∷◌, ◌++◌, length, drop, codes, decimal}
use Rattle.host_service.specs.declared.number.EpochNumber.{EpochNumber}

-- its text: both in decimal digits, a slash between them and a blank behind
abbrev pub number_text : EpochNumber → List ℕ
number_text n = decimal n.epoch ++ (codes "/" ++ (decimal n.places ++ codes " "))

-- a line has this number, and then this
pub record IsNumbered (line : List ℕ) (n : EpochNumber) (rest : List ℕ) : Type 0 where
  pub is : line ≡ number_text n ++ rest
  pub epoch : n.epoch < 2 ^ 64
  pub places : n.places < 2 ^ 64

-- or it has none
abbrev pub HasNoNumber : List ℕ → Type 0
HasNoNumber line = (n : EpochNumber) (rest : List ℕ) → ¬ IsNumbered line n rest

-- a line begins with the digits of this number and this byte; from this place on is the rest
pub record BeginsWithDigits (line : List ℕ) (end n place : ℕ) : Type 0 where
  pub is : line ≡ decimal n ++ end ∷ drop place line
  pub fits : n < 2 ^ 64
  pub within : place ≤ length line
