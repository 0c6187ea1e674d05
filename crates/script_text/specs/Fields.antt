-- What a key of a TOML table holds.
use Rattle.std.specs.Prelude.{◌≡◌, ℕ, ◌^◌, ◌<◌, List, Some, pos}
use Rattle.toml.specs.Data.{Data, string, integer, get}

-- the key holds this text
abbrev pub HasText : Data → List ℕ → List ℕ → Type 0
HasText d key text = get key d ≡ Some (string text)

-- the key holds this whole number, which fits so many bits
pub record HasNumber (d : Data) (key : List ℕ) (bits : ℕ) (n : ℕ) : Type 0 where
  pub held : get key d ≡ Some (integer (pos n))
  pub fits : n < 2 ^ bits

-- the key holds a node's number
pub record HasNode (d : Data) (key : List ℕ) (n : ℕ) : Type 0 where
  pub number : HasNumber d key 8 n
  pub node : n < 5
