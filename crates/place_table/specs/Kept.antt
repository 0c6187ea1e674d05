-- Bytes as they are kept.
use Rattle.std.specs.Prelude.{◌≡◌, ◌≤◌, ℕ, List, length, take}
use Rattle.place_table.specs.declared.kept.TheConstants.{NEAR}
use Rattle.place_table.specs.declared.kept.Form.{Form}
use Rattle.place_table.specs.declared.kept.Form.TheVariants.{Near, Far}

-- the bytes
abbrev pub kept_bytes : Form → List ℕ
kept_bytes (Near len bytes) = take len bytes
kept_bytes (Far bytes) = bytes

-- what is always true of a form
abbrev pub IsForm : Form → Type 0
IsForm (Near len bytes) = (len ≤ length bytes) × (length bytes ≡ NEAR)
IsForm (Far bytes) = Unit {0}
