-- Lines that are written in pieces.
use Rattle.std.proofs.Common.{◌≡◌, ℕ, List, [], ◌∷◌, ◌++◌, Option, Some, None, refl, sym, ap, subst, ◌∙◌, append_assoc}
use Rattle.std.specs.Prelude.{codes, decimal, slice_index, ◌/◌, ◌%◌}
use Rattle.std.specs.Io.KnownBytes.{Appends}
use Rattle.std.specs.List.{flat_map}
use Rattle.std.proofs.lemmas.List.Concat.{flat_map-cons}
use Rattle.hex.specs.Hex.{encode_lower, encode_with, lower_digits}
use Rattle.ballots.specs.declared.letters.Cast.{Cast}
use Rattle.ballots.specs.declared.letters.Letter.{Letter}
use Rattle.letter_bytes.specs.Spelling.{front_spelling, spelling, vote_spelling, votes_reported}
use Rattle.node_lines.specs.Lines.{letter_line, letter_word, vote_digits}

encode-append : (digits xs ys : List ℕ) → encode_with digits (xs ++ ys) ≡ encode_with digits xs ++ encode_with digits ys
unfolding encode_with
encode-append digits [] ys = refl
encode-append digits (x ∷ xs) ys = ap (λ (rest : List ℕ). slice_index digits (x / 16) ∷ slice_index digits (x % 16) ∷ rest) (encode-append digits xs ys)

votes_encoded : (rows : List (ℕ × Cast)) → encode_lower (flat_map vote_spelling rows) ≡ flat_map vote_digits rows
unfolding encode_with
votes_encoded [] = refl
votes_encoded (row ∷ rows) =
    ap encode_lower (flat_map-cons vote_spelling row rows) ∙ encode-append lower_digits (vote_spelling row) (flat_map vote_spelling rows)
    ∙ ap (λ (rest : List ℕ). vote_digits row ++ rest) (votes_encoded rows) ∙ sym (flat_map-cons vote_digits row rows)

appends-then : (a b c : Option (List ℕ)) (xs ys : List ℕ) → Appends a b xs → Appends b c ys → Appends a c (xs ++ ys)
appends-then None b c xs ys first second = tt
appends-then (Some all) None c xs ys first second = absurd first
appends-then (Some all) (Some more) None xs ys first second = absurd second
appends-then (Some all) (Some more) (Some most) xs ys first second = second ∙ ap (λ (l : List ℕ). l ++ ys) first ∙ append_assoc all xs ys

-- the digits of a letter are those of its front and of its votes
letter_encoded : (l : Letter) → encode_lower (spelling l) ≡ encode_lower (front_spelling l) ++ flat_map vote_digits (votes_reported l.note)
letter_encoded l =
    encode-append lower_digits (front_spelling l) (flat_map vote_spelling (votes_reported l.note))
    ∙ ap (λ (rest : List ℕ). encode_lower (front_spelling l) ++ rest) (votes_encoded (votes_reported l.note))

pub line_written : (l : Letter) (a b c d e : Option (List ℕ)) → Appends a b (letter_word ++ (decimal l.to ++ codes " ")) → Appends b c (encode_lower (front_spelling l))
    → Appends c d (flat_map vote_digits (votes_reported l.note)) → Appends d e (10 ∷ []) → Appends a e (letter_line l)
line_written l a b c d e head front votes end =
    let digits : List ℕ = encode_lower (front_spelling l) ++ flat_map vote_digits (votes_reported l.note) in
    let tail = appends-then b d e digits (10 ∷ []) (appends-then b c d (encode_lower (front_spelling l)) (flat_map vote_digits (votes_reported l.note)) front votes) end in
    let whole = appends-then a b e (letter_word ++ (decimal l.to ++ codes " ")) (digits ++ 10 ∷ []) head tail in
    let regrouped : (letter_word ++ (decimal l.to ++ codes " ")) ++ (digits ++ 10 ∷ []) ≡ letter_word ++ (decimal l.to ++ (codes " " ++ (digits ++ 10 ∷ []))) =
    append_assoc letter_word (decimal l.to ++ codes " ") (digits ++ 10 ∷ []) ∙ ap (λ (x : List ℕ). letter_word ++ x) (append_assoc (decimal l.to) (codes " ") (digits ++ 10 ∷ [])) in
    let same : letter_word ++ (decimal l.to ++ (codes " " ++ (digits ++ 10 ∷ []))) ≡ letter_line l = ap (λ (x : List ℕ). letter_word ++ (decimal l.to ++ (codes " " ++ (x ++ 10 ∷ [])))) (sym (letter_encoded l)) in
    subst (Appends a e) (regrouped ∙ same) whole
