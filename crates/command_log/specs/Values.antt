-- The scheduler over the values that a log holds.
use Rattle.std.specs.Prelude.{ℕ, ◌+◌, ◌==◌, if◌then◌else◌, List, [], ◌∷◌, map}
use Rattle.grant_machine.specs.declared.output.Output.{Output}
use Rattle.grant_machine.specs.Runs.{outputs_of}
use Rattle.grant_machine.specs.Owner.{Owns}
use Rattle.command_log.specs.Reading.{command_of}

-- the output of each value in order
abbrev pub outputs_of_values : List (List ℕ) → List Output
outputs_of_values values = outputs_of (map command_of values)

-- values with their places, by ascending place
abbrev pub Rows : Type 0
Rows = List (ℕ × List ℕ)

-- the values from place p on, up to the first place that has none
abbrev pub values_from : ℕ → Rows → List (List ℕ)
values_from p [] = []
values_from p (row ∷ rows) = if row.0 == p then row.1 ∷ values_from (p + 1) rows else []

-- the values from place 1 on without a gap
abbrev pub gapless : Rows → List (List ℕ)
gapless rows = values_from 1 rows

-- the modem that minislot m of the channel belongs to
abbrev pub Owner : List (List ℕ) → (ch m modem : ℕ) → Type 0
Owner values ch m modem = Owns (outputs_of_values values) ch m modem
