-- Digits that are decoded where they are.
use Rattle.std.proofs.Common.{◌≡◌, ℕ, ◌+◌, ◌-◌, ◌*◌, ◌<◌, ◌≤◌, ◌%◌, ◌/◌, List, [], length, take, drop, Result, Ok, Err}
use Rattle.std.proofs.Common.{get_or, refl, sym, ap, ◌∙◌, arith}
use Rattle.std.specs.Prelude.{IsErr, slice_index, slice_set}
use Rattle.std.proofs.lemmas.List.{append-nil, drop_all, get_or-drop, drop-set-lt, drop-drop, length-drop, length-set}
use Rattle.hex.specs.Hex.{decode_of, decode_pairs, pair_value}
use Rattle.hex.specs.declared.error.FromHexError.{FromHexError}
use Rattle.hex.proofs.HexLemmas.{decode_of-even}
use Rattle.hex.proofs.Pairs.{prepend, decode_step, decode_err}

abbrev okay : List ℕ → Result (List ℕ) FromHexError
okay bytes = Ok bytes

-- so many bytes are decoded, and the digits behind theirs are as they were
pub record Decoded (before text : List ℕ) (start i : ℕ) : Type 0 where
  pub len : length text ≡ length before
  pub rest : drop (start + 2 * i) text ≡ drop (start + 2 * i) before
  pub bytes : decode_pairs 0 (drop start before) ≡ prepend (take i text) (decode_pairs (2 * i) (drop (2 * i) (drop start before)))

-- a digit that wasn't decoded yet
digit_same : (before text : List ℕ) (start n k : ℕ) → drop n text ≡ drop n before → n ≤ start + k → slice_index text (start + k) ≡ slice_index (drop start before) k
digit_same before text start n k same le =
    let far : n + (start + k - n) ≡ start + k = omega arith in
    let here : get_or (drop n text) (start + k - n) 0 ≡ get_or text (start + k) 0 = get_or-drop n text (start + k - n) 0 ∙ ap (λ (j : ℕ). get_or text j 0) far in
    let there : get_or (drop n before) (start + k - n) 0 ≡ get_or before (start + k) 0 = get_or-drop n before (start + k - n) 0 ∙ ap (λ (j : ℕ). get_or before j 0) far in
    sym here ∙ ap (λ (x : List ℕ). get_or x (start + k - n) 0) same ∙ there ∙ sym (get_or-drop start before k 0)

pub one_more : (before text : List ℕ) (start i byte : ℕ) → Decoded before text start i → start + 2 * i + 1 < length before
    → ((k : ℕ) → pair_value (slice_index text (start + 2 * i)) (slice_index text (start + 2 * i + 1)) k ≡ Ok byte)
    → Decoded before (slice_set text i byte) start (i + 1)
one_more before text start i byte so_far fits pair =
    let digits : List ℕ = drop start before in
    let enough : length digits ≡ length before - start = length-drop start before in
    let high : slice_index text (start + 2 * i) ≡ slice_index digits (2 * i) = digit_same before text start (start + 2 * i) (2 * i) so_far.rest (omega arith) in
    let next : start + 2 * i + 1 ≡ start + (2 * i + 1) = omega arith in
    let low : slice_index text (start + 2 * i + 1) ≡ slice_index digits (2 * i + 1) =
    ap (slice_index text) next ∙ digit_same before text start (start + 2 * i) (2 * i + 1) so_far.rest (omega arith) in
    let byte_is : pair_value (slice_index digits (2 * i)) (slice_index digits (2 * i + 1)) (2 * i) ≡ Ok byte = rw (← high, ← low) (pair (2 * i)) in
    let two : start + 2 * i + 2 ≡ start + 2 * (i + 1) = omega arith in
    let further : drop (start + 2 * (i + 1)) text ≡ drop (start + 2 * (i + 1)) before =
    ap (λ (n : ℕ). drop n text) (sym two) ∙ sym (drop-drop 2 (start + 2 * i) text) ∙ ap (drop 2) so_far.rest ∙ drop-drop 2 (start + 2 * i) before ∙ ap (λ (n : ℕ). drop n before) two in
    record {
      len = length-set text i byte ∙ so_far.len;
      rest = drop-set-lt (start + 2 * (i + 1)) text i byte (omega arith) ∙ further;
      bytes = decode_step digits text i byte (omega (arith, enough)) (omega (arith, so_far.len)) byte_is so_far.bytes;
    }

fault_of : (r : Result ℕ FromHexError) → IsErr r → (e : FromHexError) × (r ≡ Err e)
fault_of (Ok byte) is = absurd cc
fault_of (Err e) is = (e, refl)

pub stops : (before text : List ℕ) (start i : ℕ) → Decoded before text start i → start + 2 * i + 1 < length before → (length before - start) % 2 ≡ 0
    → ((k : ℕ) → IsErr (pair_value (slice_index text (start + 2 * i)) (slice_index text (start + 2 * i + 1)) k)) → IsErr (decode_of (drop start before))
stops before text start i so_far fits even pair =
    let digits : List ℕ = drop start before in
    let enough : length digits ≡ length before - start = length-drop start before in
    let high : slice_index text (start + 2 * i) ≡ slice_index digits (2 * i) = digit_same before text start (start + 2 * i) (2 * i) so_far.rest (omega arith) in
    let next : start + 2 * i + 1 ≡ start + (2 * i + 1) = omega arith in
    let low : slice_index text (start + 2 * i + 1) ≡ slice_index digits (2 * i + 1) =
    ap (slice_index text) next ∙ digit_same before text start (start + 2 * i) (2 * i + 1) so_far.rest (omega arith) in
    let fails : IsErr (pair_value (slice_index digits (2 * i)) (slice_index digits (2 * i + 1)) (2 * i)) = rw (← high, ← low) (pair (2 * i)) in
    let fault = fault_of (pair_value (slice_index digits (2 * i)) (slice_index digits (2 * i + 1)) (2 * i)) fails in
    let pairs : decode_pairs 0 digits ≡ Err fault.0 = decode_err digits text i fault.0 (omega (arith, enough)) fault.1 so_far.bytes in
    let all : decode_of digits ≡ Err fault.0 = decode_of-even digits (ap (λ (n : ℕ). n % 2) enough ∙ even) ∙ pairs in
    rw all refl

pub finishes : (before text : List ℕ) (start i : ℕ) → Decoded before text start i → (length before - start) / 2 ≤ i → (length before - start) % 2 ≡ 0
    → decode_of (drop start before) ≡ Ok (take i text)
unfolding decode_pairs
finishes before text start i so_far all even =
    let digits : List ℕ = drop start before in
    let enough : length digits ≡ length before - start = length-drop start before in
    let none : drop (2 * i) digits ≡ [] = drop_all (2 * i) digits (omega (arith, enough)) in
    let last : prepend (take i text) (decode_pairs (2 * i) (drop (2 * i) digits)) ≡ Ok (take i text) =
    ap (λ (rest : List ℕ). prepend (take i text) (decode_pairs (2 * i) rest)) none ∙ ap (λ (bytes : List ℕ). okay bytes) (append-nil (take i text)) in
    decode_of-even digits (ap (λ (n : ℕ). n % 2) enough ∙ even) ∙ so_far.bytes ∙ last
