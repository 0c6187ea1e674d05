-- Bytes over the front of a room for them.
use Rattle.std.specs.Prelude.{ℕ, List, ◌++◌, length, drop}

-- a list written over the front of another
abbrev pub over_front : List ℕ → List ℕ → List ℕ
over_front new old = new ++ drop (length new) old
