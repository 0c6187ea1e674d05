-- What a call of a node hands out.
use Rattle.std.specs.Prelude.{◌≡◌, ◌⊎◌, ℕ, Option, Some, None}
use Rattle.ballots.specs.Rows.{at}
use Rattle.ballots.specs.declared.letters.Cast.{Cast}
use Rattle.acceptor.specs.Content.{Content, Write}
use Rattle.acceptor.specs.Content.Write.{Votes}
use Rattle.node_writes.specs.declared.write_bytes.WriteBytes.{WriteBytes}
use Rattle.node_writes.specs.Writes.{SpellsOf}

-- a vote that stands in the content already, handed out once more
abbrev pub SpellsStanding : ℕ → Content → WriteBytes → Type 0
SpellsStanding id c r = (p : ℕ) × (cast : Cast) × (at c.votes p ≡ Some cast) × SpellsOf id r (Some (Votes p cast))

-- what a call of node id hands out, over this content: its one write. Where it makes none, because it tells a vote
-- again, that may be the vote
abbrev pub HandsOut : ℕ → Content → Option Write → WriteBytes → Type 0
HandsOut id c write r = SpellsOf id r write ⊎ ((write ≡ None) × SpellsStanding id c r)
