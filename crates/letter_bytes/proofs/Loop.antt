-- Votes that are read one after the other, as a loop does.
use Rattle.std.proofs.Common.{◌≡◌, ℕ, suc, ◌-◌, ◌+◌, ◌≤◌, ◌<◌, List, [], ◌∷◌, ◌++◌, Ok, Err, refl, sym, ap, ◌∙◌}
use Rattle.std.proofs.Common.{append_assoc, arith}
use Rattle.std.specs.Prelude.{IsOk}
use Rattle.std.proofs.lemmas.List.{append-nil}
use Rattle.ballots.specs.declared.letters.Cast.{Cast}
use Rattle.letter_bytes.specs.declared.fault.LetterFault.{LetterFault}
use Rattle.letter_bytes.specs.declared.fault.LetterFault.TheVariants.{Short, NoNote, NoNode, NoBallot, Trailing}
use Rattle.letter_bytes.specs.declared.fault.LetterFault.TheVariants.{OutOfMemory}
use Rattle.letter_bytes.specs.Reading.{◌>>=◌, Read, FailsReading, HasVote, vote_at, votes_in}

abbrev Rows : Type 0
Rows = List (ℕ × Cast)

-- what was read before, and what is still read
abbrev pub with_front : List (ℕ × Cast) → Read (List (ℕ × Cast) × List ℕ) → Read (List (ℕ × Cast) × List ℕ)
with_front front read = read >>= λ x. Ok (front ++ x.0, x.1)

regroup : (front : Rows) (row : ℕ × Cast) (read : Read (Rows × List ℕ)) → with_front front (read >>= λ x. Ok (row ∷ x.0, x.1)) ≡ with_front (front ++ row ∷ []) read
regroup front row (Ok x) = ap (λ (rows : Rows). Ok (rows, x.1)) (simp append_assoc)
regroup front row (Err f) = refl

pub goes_on : (front : Rows) (count i : ℕ) (bytes : List ℕ) (row : ℕ × Cast) (after : List ℕ) (total : Read (Rows × List ℕ)) → i < count → vote_at bytes ≡ Ok (row, after)
    → with_front front (votes_in (count - i) bytes) ≡ total → with_front (front ++ row ∷ []) (votes_in (count - (i + 1)) after) ≡ total
unfolding votes_in
goes_on front count i bytes row after total lt h so_far =
    let k : count - i ≡ suc (count - (i + 1)) = omega arith in
    let one : with_front front (votes_in (count - i) bytes) ≡ with_front (front ++ row ∷ []) (votes_in (count - (i + 1)) after) = rw (k, h) (regroup front row (votes_in (count - (i + 1)) after)) in
    sym one ∙ so_far

fails_so : (f : LetterFault) (front : Rows) (count i : ℕ) (bytes : List ℕ) (total : Read (Rows × List ℕ)) → i < count → vote_at bytes ≡ Err f
    → with_front front (votes_in (count - i) bytes) ≡ total → total ≡ Err f
unfolding votes_in
fails_so f front count i bytes total lt h so_far =
    let k : count - i ≡ suc (count - (i + 1)) = omega arith in
    let one : with_front front (votes_in (count - i) bytes) ≡ Err f = rw (k, h) refl in
    sym so_far ∙ one

pub ends : (e : LetterFault) (front : Rows) (count i : ℕ) (bytes start : List ℕ) (total : Read (Rows × List ℕ)) → i < count → (IsOk (vote_at bytes) → IsOk (vote_at start))
    → FailsReading (IsOk (vote_at bytes)) e (vote_at bytes) → with_front front (votes_in (count - i) bytes) ≡ total → FailsReading (HasVote count start) e total
ends OutOfMemory front count i bytes start total lt first h so_far = (omega arith, first h)
ends Short front count i bytes start total lt first h so_far = fails_so Short front count i bytes total lt h so_far
ends NoNote front count i bytes start total lt first h so_far = fails_so NoNote front count i bytes total lt h so_far
ends NoNode front count i bytes start total lt first h so_far = fails_so NoNode front count i bytes total lt h so_far
ends NoBallot front count i bytes start total lt first h so_far = fails_so NoBallot front count i bytes total lt h so_far
ends Trailing front count i bytes start total lt first h so_far = fails_so Trailing front count i bytes total lt h so_far

pub is_done : (front : Rows) (count i : ℕ) (bytes : List ℕ) (total : Read (Rows × List ℕ)) → count ≤ i → with_front front (votes_in (count - i) bytes) ≡ total → total ≡ Ok (front, bytes)
unfolding votes_in
is_done front count i bytes total le so_far =
    let k : count - i ≡ 0 = omega arith in
    let one : with_front front (votes_in (count - i) bytes) ≡ Ok (front, bytes) = rw k (ap (λ (rows : Rows). Ok (rows, bytes)) (append-nil front)) in
    sym so_far ∙ one
