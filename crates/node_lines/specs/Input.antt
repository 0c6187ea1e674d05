-- Lines as they come, of an input whose bytes may be known.
use Rattle.std.specs.Prelude.{◌≡◌, ◌≢◌, ℕ, ◌<◌, ◌≤◌, Bool, true, false, List, [], ◌∷◌, ◌++◌, length, All, Option, Some}
use Rattle.std.specs.Prelude.{None}
use Rattle.std.specs.Io.KnownBytes.{Consumes, IsAtEnd}
use Rattle.node_lines.specs.Lines.{longest_line}
use Rattle.node_lines.specs.declared.fault.LineFault.{LineFault}
use Rattle.node_lines.specs.declared.fault.LineFault.TheVariants as fault
use Rattle.node_lines.specs.declared.input.Next.{Next}
use Rattle.node_lines.specs.declared.input.Next.TheVariants as next

-- a byte comes, or the input is at its end
abbrev pub ByteComes : Option (List ℕ) → Option (List ℕ) → Option ℕ → Type 0
ByteComes old new (Some byte) = Consumes old new (byte ∷ [])
ByteComes old new None = Consumes old new [] × IsAtEnd new

-- no byte is a line's end
abbrev pub IsLine : List ℕ → Type 0
IsLine line = All (λ byte. byte ≢ 10) line

-- this line was read, with its end
abbrev pub ReadsLine : Option (List ℕ) → Option (List ℕ) → List ℕ → Type 0
ReadsLine old new line = IsLine line × Consumes old new (line ++ 10 ∷ [])

-- this was read, which is no whole line, and nothing is left
abbrev pub ReadsLast : Option (List ℕ) → Option (List ℕ) → List ℕ → Type 0
ReadsLast old new left = IsLine left × Consumes old new left × IsAtEnd new

-- what is left of a line was read, up to its end, or there is no end
abbrev pub RestComes : Option (List ℕ) → Option (List ℕ) → Bool → Type 0
RestComes old new true = (rest : List ℕ) × ReadsLine old new rest
RestComes old new false = (rest : List ℕ) × ReadsLast old new rest

-- the same, for a line that is refused so
abbrev pub RefusedComes : Option (List ℕ) → Option (List ℕ) → LineFault → Next → Type 0
RefusedComes old new why (next.Line line) = ⊥
RefusedComes old new why (next.Refused told) = (told ≡ why) × RestComes old new true
RefusedComes old new why next.End = RestComes old new false

-- a line may be refused so before it is looked at, where this many bytes of one are kept
abbrev pub IsDroppedBeyond : ℕ → List ℕ → LineFault → Type 0
IsDroppedBeyond most line fault.NoLine = ⊥
IsDroppedBeyond most line fault.NoHex = ⊥
IsDroppedBeyond most line fault.NoNumber = ⊥
IsDroppedBeyond most line fault.NoCommand = ⊥
IsDroppedBeyond most line (fault.NoLetter why) = ⊥
IsDroppedBeyond most line fault.OutOfMemory = 0 < length line
IsDroppedBeyond most line fault.TooLong = most < length line

-- the same of a node's line
abbrev pub IsDropped : List ℕ → LineFault → Type 0
IsDropped line why = IsDroppedBeyond longest_line line why

-- what comes next, where this many bytes of a line are kept
abbrev pub LineComesWithin : ℕ → Option (List ℕ) → Option (List ℕ) → Next → Type 0
LineComesWithin most old new (next.Line line) = ReadsLine old new line × (length line ≤ most)
LineComesWithin most old new (next.Refused why) = (line : List ℕ) × ReadsLine old new line × IsDroppedBeyond most line why
LineComesWithin most old new next.End = (left : List ℕ) × ReadsLast old new left

-- what comes next of a node's lines
abbrev pub LineComes : Option (List ℕ) → Option (List ℕ) → Next → Type 0
LineComes old new what = LineComesWithin longest_line old new what
