-- The due times of flows by SID, as the program keeps them.
use Rattle.std.specs.Prelude.{ℕ, ◌/◌, ◌<◌, ◌≤◌, List, length, slice_index}
use Rattle.flow_state.specs.declared.dues.Dues.{Dues}

-- the list has a time at this place that doesn't come after another
abbrev pub IsBefore : List ℕ → (place due : ℕ) → Type 0
IsBefore ns place due = (place < length ns) × (slice_index ns place ≤ due)

-- what is kept of a SID, and of its block of 64, doesn't come after its due time
abbrev pub IsDueFrom : Dues → (sid due : ℕ) → Type 0
IsDueFrom ds sid due = IsBefore ds.times.items sid due × IsBefore ds.least.items (sid / 64) due

-- there is room for what is kept of a SID
abbrev pub HasRoom : Dues → ℕ → Type 0
HasRoom ds sid = (sid < length ds.times.items) × (sid / 64 < length ds.least.items)

-- no SID from one on and before another can be due before the end
abbrev pub NoneDue : Dues → (from to end : ℕ) → Type 0
NoneDue ds from to end = (sid due : ℕ) → from ≤ sid → sid < to → IsDueFrom ds sid due → end ≤ due

-- no time from a place on and before another comes before the end
abbrev pub NoneBefore : List ℕ → (from to end : ℕ) → Type 0
NoneBefore ns from to end = (place : ℕ) → from ≤ place → place < to → place < length ns → end ≤ slice_index ns place
