-- The free minislots of a MAP, as the program keeps them.
use Rattle.std.specs.Prelude.{◌≡◌, ℕ, suc, slice_get, ◌+◌, ◌<◌, ◌≤◌, Bool, true, false, ◌&&◌, nat_lt, nat_le}
use Rattle.std.specs.Prelude.{if◌then◌else◌, max, List, [], ◌∷◌, ◌++◌, Option, Some, None}
use Rattle.std.specs.List.{flat_map}
pub use Rattle.grant_machine_parts.specs.declared.gaps.Gap.{Gap}

-- a longest run of free minislots, and those from a on before it are held
pub record IsGap (free : ℕ → Bool) (a len : ℕ) (g : Gap) : Type 0 where
  pub from : a ≤ g.from
  pub to : g.from ≤ g.to
  pub within : g.to ≤ len
  pub before : (x : ℕ) → a ≤ x → x < g.from → free x ≡ false
  pub inside : (x : ℕ) → g.from ≤ x → x < g.to → free x ≡ true
  pub behind : g.to < len → free g.to ≡ false

-- the gaps are the longest runs of free minislots from a on, by offset
abbrev pub AreGaps : (ℕ → Bool) → (a len : ℕ) → List Gap → Type 0
AreGaps free a len [] = (x : ℕ) → a ≤ x → x < len → free x ≡ false
AreGaps free a len (g ∷ gs) = IsGap free a len g × AreGaps free g.to len gs

-- the minislots between two offsets are a gap's
abbrev pub covers : (from to : ℕ) → Gap → Bool
covers from to g = nat_le g.from from && nat_le to g.to

-- what is left of a gap once the minislots between two offsets are held
abbrev pub left_of : (from to : ℕ) → Gap → List Gap
left_of from to g = if nat_lt g.from from then record { from = g.from; to = from } ∷ [] else []

abbrev pub right_of : (from to : ℕ) → Gap → List Gap
right_of from to g = if nat_lt to g.to then record { from = to; to = g.to } ∷ [] else []

abbrev pub carved_gap : (from to : ℕ) → Gap → List Gap
carved_gap from to g = if nat_lt g.from to && nat_lt from g.to && nat_lt from to then left_of from to g ++ right_of from to g else g ∷ []

abbrev pub carved : (from to : ℕ) → List Gap → List Gap
carved from to gs = flat_map (carved_gap from to) gs

-- the least offset from first on and before behind where n minislots of a gap begin
abbrev pub gap_in : List Gap → (n first behind : ℕ) → Option ℕ
gap_in [] n first behind = None
gap_in (g ∷ gs) n first behind =
    if nat_le behind (max g.from first) then None
    else if nat_le (max g.from first + n) g.to then Some (max g.from first) else gap_in gs n first behind

-- the last one of so many gaps from the first on ends by an offset
abbrev pub HasPassed : List Gap → (count x : ℕ) → Type 0
HasPassed gs count x = (k : ℕ) (g : Gap) → suc k ≡ count → slice_get gs k ≡ Some g → g.to ≤ x

-- the minislots between two offsets, which are some, are those of a gap
abbrev pub IsInGap : List Gap → (number from to : ℕ) → Type 0
IsInGap gs number from to = (g : Gap) × (slice_get gs number ≡ Some g) × (g.from ≤ from) × (from < to) × (to ≤ g.to)
