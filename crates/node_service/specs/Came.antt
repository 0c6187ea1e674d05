-- A line as it came, or why it was let go.
use Rattle.std.specs.Prelude.{◌≡◌, Result, Ok, Err, ℕ, List}
use Rattle.node_lines.specs.declared.fault.LineFault.{LineFault}
use Rattle.node_lines.specs.Lines.{Asks, IsRefused}
use Rattle.node_lines.specs.declared.input.Next.{Next}
use Rattle.node_lines.specs.declared.input.Next.TheVariants as next
use Rattle.node_lines.specs.declared.request.Request.{Request}

-- it is what comes next
abbrev pub next_of : Result (List ℕ) LineFault → Next
next_of (Ok line) = next.Line line
next_of (Err why) = next.Refused why

-- what came asks this of a node
abbrev pub IsAskedBy : Result (List ℕ) LineFault → Request → Type 0
IsAskedBy (Ok line) asked = Asks line asked
IsAskedBy (Err why) asked = ⊥

-- what came asks nothing, for this fault
abbrev pub IsRefusedBy : Result (List ℕ) LineFault → LineFault → Type 0
IsRefusedBy (Ok line) why = IsRefused line why
IsRefusedBy (Err dropped) why = why ≡ dropped
