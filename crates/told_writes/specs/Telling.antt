-- The write that a letter of an answer tells of.
use Rattle.std.specs.Prelude.{◌≡◌, ◌≢◌, ◌-◌, ℕ, List, length, slice_get, Option, Some, None, MatchOption}
use Rattle.ballots.specs.Limits.{IsPlace, IsValue}
use Rattle.ballots.specs.Rows.{at}
use Rattle.ballots.specs.declared.letters.Letter.{Letter}
use Rattle.ballots.specs.declared.letters.Note.{Note}
use Rattle.ballots.specs.declared.letters.Note.TheVariants.{Prepare, Promise, Accept, Voted, Higher, Known}
use Rattle.acceptor.specs.Content.Write.{Tries, Promises, Votes, Learns}
use Rattle.node_writes.specs.declared.write_bytes.WriteBytes.{WriteBytes}
use Rattle.node_writes.specs.Writes.{SpellsOf}

-- a vote is at a place of the log, for a value of the log
abbrev pub IsOfLog : ℕ → List ℕ → Type 0
IsOfLog p v = IsPlace p × IsValue v

-- these bytes are the write that a note of node id tells of: the ballot that it prepares or promises, its vote; any
-- other tells of none
abbrev pub TellsWrite : ℕ → Note → WriteBytes → Type 0
TellsWrite id (Prepare b q) r = SpellsOf id r (Some (Tries b))
TellsWrite id (Promise b q votes) r = SpellsOf id r (Some (Promises b))
TellsWrite id (Voted b p v) r = (IsOfLog p v → SpellsOf id r (Some (Votes p record { ballot = b; value = v }))) × (¬ IsOfLog p v → SpellsOf id r None)
TellsWrite id (Accept b p v) r = SpellsOf id r None
TellsWrite id (Higher b) r = SpellsOf id r None
TellsWrite id (Known p v) r = SpellsOf id r None

-- a note may teach a value of this place
abbrev pub Teaches : Note → ℕ → Type 0
Teaches (Voted b q v) p = q ≡ p
Teaches (Known q v) p = q ≡ p
Teaches (Prepare b q) p = ⊥
Teaches (Promise b q votes) p = ⊥
Teaches (Accept b q v) p = ⊥
Teaches (Higher b) p = ⊥

-- the place of the log of which a note may teach a value, where the node has learned none among these
abbrev pub IsOpen : List (ℕ × List ℕ) → Note → Option ℕ → Type 0
IsOpen learned note (Some p) = Teaches note p × IsPlace p × (at learned p ≡ None)
IsOpen learned note None = (p : ℕ) → Teaches note p → IsPlace p → at learned p ≢ None

-- these bytes are the write of a call that left node id with these learned values, and gave these letters: the value
-- that is learned at the open place now, or what the last letter tells of
abbrev pub WritesAfter : ℕ → List (ℕ × List ℕ) → List Letter → Option ℕ → WriteBytes → Type 0
WritesAfter id learned letters (Some p) r = MatchOption (at learned p) (SpellsOf id r None) (λ v. IsValue v → SpellsOf id r (Some (Learns p v)))
WritesAfter id learned letters None r = MatchOption (slice_get letters (length letters - 1)) (SpellsOf id r None) (λ l. TellsWrite id l.note r)
