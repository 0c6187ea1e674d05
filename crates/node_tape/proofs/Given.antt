-- A byte that was ahead is given.
use Rattle.std.proofs.Common.{◌≡◌, ℕ, ◌<◌, List, [], ◌∷◌, Option, Some, None, length, take, slice_set, refl, sym, subst}
use Rattle.std.proofs.Common.{arith}
use Rattle.std.specs.Io.KnownBytes.{Consumes, IsAtEnd, Keeps, prepend_known}
use Rattle.node_tape.specs.Heard.{IsAhead, bytes_left}

gives_ahead : (old rest : Option (List ℕ)) (byte : ℕ) (buf : List ℕ) → 0 < length buf → Keeps old (prepend_known (byte ∷ []) rest) → Consumes old (prepend_known [] rest) (take 1 (slice_set buf 0 byte))
gives_ahead None rest byte buf room keeps = tt
gives_ahead (Some xs) None byte buf room keeps = absurd keeps
gives_ahead (Some xs) (Some ys) byte [] room keeps = absurd (omega (arith, room))
gives_ahead (Some xs) (Some ys) byte (x ∷ buf) room keeps = sym keeps

ahead_is : (old : Option (List ℕ)) (next : Option ℕ) (byte : ℕ) (ahead : Option ℕ) (rest : Option (List ℕ)) → next ≡ Some byte → IsAhead old next ahead rest → Keeps old (bytes_left (Some byte) rest)
ahead_is old None byte ahead rest is comes = absurd (let no : None ≡ Some byte = is in cc)
ahead_is old (Some b) byte ahead rest is comes =
    let same : b ≡ byte = cc in
    subst (λ (x : ℕ). Keeps old (bytes_left (Some x) rest)) same
    (subst (λ (a : Option ℕ). Keeps old (bytes_left a rest)) comes.0 comes.1)

-- what a read that gives it owes
pub read_gives : (old : Option (List ℕ)) (next : Option ℕ) (byte : ℕ) (ahead : Option ℕ) (rest rest' : Option (List ℕ)) (buf : List ℕ) → next ≡ Some byte → IsAhead old next ahead rest → rest' ≡ rest → 0 < length buf
    → Consumes old (bytes_left None rest') (take 1 (slice_set buf 0 byte)) × (◌≡◌ {A = ℕ} 1 0 → 0 < length (slice_set buf 0 byte) → IsAtEnd (bytes_left None rest'))
read_gives old next byte ahead rest rest' buf is comes same room = (
  subst (λ (r : Option (List ℕ)). Consumes old (bytes_left None r) (take 1 (slice_set buf 0 byte))) (sym same) (gives_ahead old rest byte buf room (ahead_is old next byte ahead rest is comes)),
  λ wrong. absurd (omega (arith, wrong)),
)

-- the one byte that a buffer with room begins with then
pub one_given : (byte : ℕ) (buf : List ℕ) → 0 < length buf → byte ∷ [] ≡ take 1 (slice_set buf 0 byte)
one_given byte [] room = absurd (omega (arith, room))
one_given byte (x ∷ buf) room = refl
