-- Records whose calls fail where they are told to.
use Rattle.std.specs.Prelude.{ℕ, ◌+◌, ◌-◌, ◌^◌, ◌≤◌, min, Bool, true, false}
use Rattle.faulty_records.specs.declared.faulty.Failure.{Failure}
use Rattle.faulty_records.specs.declared.faulty.Failure.TheVariants.{Refused, BrokenWritten, BrokenUnwritten}
use Rattle.faulty_records.specs.declared.faulty.Trouble.{Trouble}

-- a count after one more, which at the top of a u64 stays
abbrev pub next : ℕ → ℕ
next n = min (n + 1) (2 ^ 64 - 1)

-- the call of this number is one of those that fail
abbrev pub IsChosen : Trouble → ℕ → Type 0
IsChosen trouble number = (trouble.first ≤ number) × (number ≤ trouble.last)

-- after such a failure the records wait for a reopen
abbrev pub breaks : Failure → Bool
breaks Refused = false
breaks BrokenWritten = true
breaks BrokenUnwritten = true
