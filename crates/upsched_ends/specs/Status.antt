-- How the program ends.
use Rattle.std.specs.Prelude.{ℕ}
use Rattle.upsched_ends.specs.declared.status.Status.{Status}
use Rattle.upsched_ends.specs.declared.status.Status.TheVariants.{Done, Faulted, NotUnderstood}

-- the exit status of the process
abbrev pub code_of : Status → ℕ
code_of Done = 0
code_of Faulted = 1
code_of NotUnderstood = 2
