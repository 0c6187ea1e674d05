-- Room for bytes.
use Rattle.std.specs.Prelude.{ℕ, List}

-- room for bytes, and how many they are
pub record Told : Type 0 where
  pub room : List ℕ
  pub count : ℕ

abbrev pub told : List ℕ → ℕ → Told
told room count = record { room = room; count = count }
