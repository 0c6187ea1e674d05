-- Parts of a text.
use Rattle.std.proofs.Common.{◌≡◌, ◌∙◌, ℕ, ◌+◌, ◌-◌, ◌≤◌, List, [], ◌∷◌, ◌++◌, length, take, drop, refl, sym, ap, arith}
use Rattle.std.proofs.Math.Seq.{take-add, take-append_seam}
use Rattle.std.proofs.lemmas.List.{append_assoc, length-append, length-drop, length-take-le, take-append-drop, take_all}
use Rattle.std.proofs.Common.{◌≢◌, Option, zero, suc, slice_get, subst}
use Rattle.std.specs.Option.{MatchOption}
use Rattle.node_journal.specs.Tears.{GoesOn}
use Rattle.node_journal.specs.Turns.{BeginsWith}

-- a text up to a place, and a part behind it
pub took : (text part rest : List ℕ) (p : ℕ) → drop p text ≡ part ++ rest → take (p + length part) text ≡ take p text ++ part
took text part rest p is = take-add p (length part) text ∙ ap (λ xs. take p text ++ xs) (ap (take (length part)) is ∙ take-append_seam part rest)

-- the part is in the text
pub fits : (text part rest : List ℕ) (p : ℕ) → p ≤ length text → drop p text ≡ part ++ rest → p + length part ≤ length text
fits text part rest p within is =
    let all : length text - p ≡ length part + length rest = sym (length-drop p text) ∙ (ap length is ∙ length-append part rest) in
    omega (arith, within, all)

-- what two texts have in common
pub common_part : (xs ys : List ℕ) (n : ℕ) → n ≤ length xs → take n xs ≡ take n ys → (part : List ℕ) × (length part ≡ n) × BeginsWith part xs × BeginsWith part ys
common_part xs ys n within same = (
  take n xs,
  length-take-le n xs within,
  (drop n xs, sym (take-append-drop n xs)),
  (drop n ys, sym (take-append-drop n ys) ∙ ap (λ zs. zs ++ drop n ys) (sym same)),
)

-- one begins with all of the other
pub common_whole : (xs ys : List ℕ) (n : ℕ) → n ≡ length ys → take n xs ≡ take n ys → BeginsWith ys xs
common_whole xs ys n is same = (drop n xs, sym (take-append-drop n xs) ∙ ap (λ zs. zs ++ drop n xs) (same ∙ take_all n ys (omega (arith, is))))

-- a line, its end, and a part of what stands behind
pub line_part : (text line after part : List ℕ) → text ≡ line ++ 10 ∷ after → BeginsWith part after → BeginsWith (line ++ 10 ∷ part) text
line_part text line after part is begins =
    (begins.0, is ∙ (ap (λ xs. line ++ 10 ∷ xs) begins.1 ∙ sym (append_assoc line (10 ∷ part) begins.0)))

pub line_size : (line part : List ℕ) (n : ℕ) → length part ≡ n → length (line ++ 10 ∷ part) ≡ length line + 1 + n
line_size line part n size =
    let all : length (line ++ 10 ∷ part) ≡ length line + length (10 ∷ part) = length-append line (10 ∷ part) in
    omega (arith, all, size)

-- a list without elements
pub no_element : {A : Type 0} (xs : List A) → length xs ≡ 0 → xs ≡ []
no_element [] none = refl
no_element (x ∷ xs) none = absurd (omega (arith, none))

-- what stands behind a place, as a slice of the text has it
pub rest_of : (text : List ℕ) (p : ℕ) → take (length text - p) (drop p text) ≡ drop p text
rest_of text p = take_all (length text - p) (drop p text) (omega (arith, length-drop p text))

-- what stands behind a place, as the text has it
pub get_behind : {A : Type 0} (p n : ℕ) (xs : List A) → slice_get (drop p xs) n ≡ slice_get xs (p + n)
get_behind zero n xs = ap (slice_get xs) (omega arith)
get_behind (suc p) n [] = refl
get_behind (suc p) n (x ∷ xs) = let at : suc p + n ≡ suc (p + n) = omega arith in get_behind p n xs ∙ ap (slice_get (x ∷ xs)) (sym at)

get_past : {A : Type 0} (xs ys : List A) (n : ℕ) → slice_get (xs ++ ys) (length xs + n) ≡ slice_get ys n
get_past [] ys n = ap (slice_get ys) (omega arith)
get_past (x ∷ xs) ys n = let at : length (x ∷ xs) + n ≡ suc (length xs + n) = omega arith in ap (slice_get (x ∷ (xs ++ ys))) at ∙ get_past xs ys n

-- what stands behind a line
pub behind_line : (text line after : List ℕ) (p n : ℕ) → drop p text ≡ line ++ 10 ∷ after → slice_get text (p + (length line + 1 + n)) ≡ slice_get after n
behind_line text line after p n is =
    let at : length line + 1 + n ≡ length line + suc n = omega arith in
    sym (get_behind p (length line + 1 + n) text) ∙ (ap (λ (xs : List ℕ). slice_get xs (length line + 1 + n)) is
    ∙ (ap (slice_get (line ++ 10 ∷ after)) at ∙ get_past line (10 ∷ after) (suc n)))

pub goes_there : (text : List ℕ) (p n : ℕ) → GoesOn (drop p text) n → GoesOn text (p + n)
goes_there text p n goes = subst (λ (o : Option ℕ). MatchOption o ⊥ (λ byte. byte ≢ 10)) (get_behind p n text) goes
