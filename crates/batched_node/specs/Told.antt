-- What is told of a request that a node did.
use Rattle.std.specs.Prelude.{◌≡◌, ℕ, List, Option, None}
use Rattle.ballots.specs.declared.letters.Letter.{Letter}
use Rattle.node_lines.specs.declared.request.Request.{Request}
use Rattle.node_lines.specs.declared.request.Request.TheVariants as request
use Rattle.node_writes.specs.Writes.{SpellsOf}
use Rattle.node_writes.specs.declared.write_bytes.WriteBytes.{WriteBytes}
use Rattle.seats.specs.declared.acted.Acted.{Acted}
use Rattle.seats.specs.declared.acted.Acted.TheVariants as acted
use Rattle.told_writes.specs.Telling.{IsOpen, WritesAfter}

-- the place that a letter leaves open, and none where anything else is asked
abbrev pub IsOpenFor : List (ℕ × List ℕ) → Request → Option ℕ → Type 0
IsOpenFor learned (request.Letter letter) place = IsOpen learned letter.note place
IsOpenFor learned other place = place ≡ None

-- the bytes are the write of what was asked: told by its letters, or that an offer, a tell and a release make none
abbrev pub IsWriteFor : ℕ → List (ℕ × List ℕ) → Request → List Letter → Option ℕ → WriteBytes → Type 0
IsWriteFor id learned (request.Letter letter) letters place r = WritesAfter id learned letters place r
IsWriteFor id learned request.Lead letters place r = WritesAfter id learned letters place r
IsWriteFor id learned other letters place r = SpellsOf id r None

-- the same by what came of it: where no letters did, there is no write
abbrev pub IsWriteOf : ℕ → List (ℕ × List ℕ) → Request → Acted → Option ℕ → WriteBytes → Type 0
IsWriteOf id learned asked (acted.Sent letters) place r = IsWriteFor id learned asked letters.items place r
IsWriteOf id learned asked other place r = SpellsOf id r None
