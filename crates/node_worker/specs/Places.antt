-- Where outputs stand.
use Rattle.std.specs.Prelude.{◌≡◌, ℕ, ◌≤◌, List, length, take}
use Rattle.node_worker.specs.Legal.{outputs_of}
use Rattle.node_worker.specs.declared.entry.Done.{Done}

-- the records before number i, of at most all, released so many outputs
abbrev pub IsPlaceOf : List Done → ℕ → ℕ → Type 0
IsPlaceOf records i before = (i ≤ length records) × (length (outputs_of (take i records)) ≡ before)
