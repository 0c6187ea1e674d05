-- What is told of a call of a node.
use Rattle.std.specs.Prelude.{ℕ, List, Option, None, Result, Ok, Err}
use Rattle.ballots.specs.declared.letters.Letter.{Letter}
use Rattle.node_writes.specs.Writes.{SpellsOf}
use Rattle.node_writes.specs.declared.write_bytes.WriteBytes.{WriteBytes}
use Rattle.proposer.specs.declared.fault.NodeFault.{NodeFault}
use Rattle.told_writes.specs.Telling.{WritesAfter}

-- these bytes are the write of a call that was answered so and left node id with these learned values, where a letter
-- left this place open: one that failed made none
abbrev pub IsWriteOfCall : ℕ → List (ℕ × List ℕ) → Option ℕ → Result (List Letter) NodeFault → WriteBytes → Type 0
IsWriteOfCall id learned place (Ok letters) r = WritesAfter id learned letters place r
IsWriteOfCall id learned place (Err fault) r = SpellsOf id r None
