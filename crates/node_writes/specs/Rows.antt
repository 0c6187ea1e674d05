-- What a write changes.
use Rattle.std.specs.Prelude.{ℕ, List, Option, Some, None}
use Rattle.acceptor.specs.Content.{Write}
use Rattle.acceptor.specs.Content.Write.{Tries, Promises, Votes, Learns}
use Rattle.node_writes.specs.declared.reading.Row.{Row}
use Rattle.node_writes.specs.declared.reading.Row.TheVariants as rows

-- the write of a row and a value
abbrev pub row_write : Row → List ℕ → Option Write
row_write rows.Nothing v = None
row_write (rows.Tried b) v = Some (Tries b)
row_write (rows.Promised b) v = Some (Promises b)
row_write (rows.Vote p b) v = Some (Votes p record { ballot = b; value = v })
row_write (rows.Learned p) v = Some (Learns p v)
