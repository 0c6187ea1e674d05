-- A table as its callers see it, and as it is stored.
use Rattle.std.specs.Prelude.{◌≡◌, ℕ, ◌+◌, ◌<◌, ◌≤◌, List, [], ◌∷◌, ◌++◌, length, refl}
use Rattle.ballots.specs.Rows.{rows_from}
use Rattle.std.specs.Coded.{Coded, code_by, coded×, coded_list, coded_ℕ}

-- the values with their places, by ascending place
pub record Entries (V : Type 0) : Type 0 where
  pub entries : List (ℕ × V)

abbrev pub entries_code : {V : Type 0} → Coded V → Coded (Entries V)
entries_code {V} code = code_by (List (ℕ × V)) (coded_list (coded× coded_ℕ code)) (λ e. e.entries) (λ rows. record { entries = rows }) (λ _. refl)

module _ {V : Type 0} where
  -- values at places that follow one another from p on
  abbrev pub numbered : ℕ → List V → List (ℕ × V)
  numbered p [] = []
  numbered p (v ∷ vs) = (p, v) ∷ numbered (p + 1) vs

  -- each row stands before p
  abbrev pub AllBelow : ℕ → List (ℕ × V) → Type 0
  AllBelow p [] = Unit {0}
  AllBelow p (row ∷ rows) = (row.0 < p) × AllBelow p rows

  -- each row stands at p or behind it
  abbrev pub AllFrom : ℕ → List (ℕ × V) → Type 0
  AllFrom p [] = Unit {0}
  AllFrom p (row ∷ rows) = (p ≤ row.0) × AllFrom p rows

  -- the rows before a run, those of the run, and those behind it
  abbrev pub entries_of : List (ℕ × V) → ℕ → List V → List (ℕ × V) → List (ℕ × V)
  entries_of before first run after = before ++ (numbered first run ++ after)

  -- what is always true of them
  abbrev pub AreStored : List (ℕ × V) → ℕ → List V → List (ℕ × V) → Type 0
  AreStored before first run after = AllBelow first before × AllFrom (first + length run) after

  -- of the rows from place p on, v at place k is the first
  abbrev pub IsNext : List (ℕ × V) → ℕ → ℕ → V → Type 0
  IsNext rows p k v = rows_from rows p ≡ (k, v) ∷ rows_from rows (k + 1)
