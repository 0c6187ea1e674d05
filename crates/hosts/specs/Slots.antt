-- The nodes of three epochs.
use Rattle.std.specs.Prelude.{ℕ, ◌+◌, ◌==◌, if◌then◌else◌, Option, Some, None}

-- what is there of epoch e: of the own one, whose number is given, of the one after, and of the one before
abbrev pub slot : {S : Type 0} → ℕ → Option S → S → S → ℕ → Option S
slot number before own after e = if e == number then Some own else if e == number + 1 then Some after else if e + 1 == number then before else None
