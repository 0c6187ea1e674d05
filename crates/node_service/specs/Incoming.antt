-- Requests as they come, of an input whose bytes may be known.
use Rattle.std.specs.Prelude.{◌⊎◌, ℕ, ◌≤◌, List, length, Option}
use Rattle.node_lines.specs.declared.fault.LineFault.{LineFault}
use Rattle.node_lines.specs.Input.{IsDropped, ReadsLast, ReadsLine}
use Rattle.node_lines.specs.Lines.{Asks, IsRefused, longest_line}
use Rattle.node_service.specs.declared.incoming.Incoming.{Incoming}
use Rattle.node_service.specs.declared.incoming.Incoming.TheVariants.{Asks as AsksFor, Refused, End}

-- a line is refused so, once it is looked at or before
abbrev pub IsTurnedAway : List ℕ → LineFault → Type 0
IsTurnedAway line why = IsRefused line why ⊎ IsDropped line why

-- what a line is taken for
abbrev pub IsTakenFor : List ℕ → Incoming → Type 0
IsTakenFor line (AsksFor asked) = Asks line asked × (length line ≤ longest_line)
IsTakenFor line (Refused why) = IsTurnedAway line why
IsTakenFor line End = ⊥

-- the same of a line that was looked at
abbrev pub IsAnswered : List ℕ → Incoming → Type 0
IsAnswered line (AsksFor asked) = Asks line asked
IsAnswered line (Refused why) = IsRefused line why
IsAnswered line End = ⊥

-- a whole line comes and is taken for this, or none is left
abbrev pub Comes : Option (List ℕ) → Option (List ℕ) → Incoming → Type 0
Comes old new (AsksFor asked) = (line : List ℕ) × ReadsLine old new line × IsTakenFor line (AsksFor asked)
Comes old new (Refused why) = (line : List ℕ) × ReadsLine old new line × IsTakenFor line (Refused why)
Comes old new End = (left : List ℕ) × ReadsLast old new left
