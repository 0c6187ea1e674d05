-- Texts that are added one behind another.
use Rattle.std.proofs.Common.{◌≡◌, ◌≢◌, ◌==◌, if◌then◌else◌, ℕ, false, zero, suc, List, [], ◌∷◌, ◌++◌, map, sym, ◌∙◌}
use Rattle.std.proofs.Common.{ap, append_assoc, append-nil, arith, String, string_bytes, Global}
use Rattle.std.proofs.lemmas.Bool.Decides.{nat_tests}
use Rattle.std.proofs.lemmas.List.{map-append}
use Rattle.std.specs.List.{AllZip}
use Rattle.serde_json.specs.Data.{Data}
use Rattle.json_outputs.specs.Texts.{IsTextOf}
use Rattle.json_stats.specs.Flows.{AddsTexts}

pub both_zipped : (ds es : List Data) (xs ys : List (List ℕ)) → AllZip IsTextOf ds xs → AllZip IsTextOf es ys → AllZip IsTextOf (ds ++ es) (xs ++ ys)
both_zipped [] es [] ys a b = b
both_zipped [] es (x ∷ xs) ys a b = absurd a
both_zipped (d ∷ ds) es [] ys a b = absurd a
both_zipped (d ∷ ds) es (x ∷ xs) ys a b = (a.0, both_zipped ds es xs ys a.1 b)

pub none_added : (old : List (String Global)) → AddsTexts [] old old
none_added old = ([], sym (append-nil old), tt)

pub one_added : (d : Data) (text : String Global) (old new : List (String Global)) → new ≡ old ++ text ∷ [] → IsTextOf d (string_bytes text) → AddsTexts (d ∷ []) old new
one_added d text old new grown told = (text ∷ [], grown, (told, tt))

pub both_added : (ds es : List Data) (old mid new : List (String Global)) → AddsTexts ds old mid → AddsTexts es mid new → AddsTexts (ds ++ es) old new
both_added ds es old mid new (xs, grown, told) (ys, grown', told') =
    let whole : new ≡ old ++ (xs ++ ys) = grown' ∙ ap (λ l. l ++ ys) grown ∙ append_assoc old xs ys in
    let texts : map string_bytes (xs ++ ys) ≡ map string_bytes xs ++ map string_bytes ys = map-append string_bytes xs ys in
    (xs ++ ys, whole, rw texts (both_zipped ds es (map string_bytes xs) (map string_bytes ys) told told'))

pub all_added : (ds : List Data) (new : List (String Global)) → AddsTexts ds [] new → AllZip IsTextOf ds (map string_bytes new)
all_added ds new (xs, grown, told) = rw grown told

-- a row that is there where a number isn't 0
pub no_row : (d : Data) (n : ℕ) (old : List (String Global)) → n ≡ 0 → AddsTexts (if n == 0 then [] else d ∷ []) old old
no_row d zero old none = none_added old
no_row d (suc n) old none = absurd (let same : suc n ≡ 0 = none in cc)

pub some_row : (d : Data) (n : ℕ) (text : String Global) (old new : List (String Global)) → n ≢ 0 → new ≡ old ++ text ∷ [] → IsTextOf d (string_bytes text)
    → AddsTexts (if n == 0 then [] else d ∷ []) old new
some_row d n text old new some grown told = let other : (n == 0) ≡ false = grind (arith, nat_tests, some) in rw other (one_added d text old new grown told)

-- the texts of four rows, one behind another
pub four_added : (a b c d : List Data) (none one two three four : List (String Global)) → none ≡ [] → AddsTexts a none one → AddsTexts b one two → AddsTexts c two three → AddsTexts d three four
    → AllZip IsTextOf (a ++ (b ++ (c ++ d))) (map string_bytes four)
four_added a b c d none one two three four is first second third last =
    let all = both_added a (b ++ (c ++ d)) none one four first (both_added b (c ++ d) one two four second (both_added c d two three four third last)) in
    all_added (a ++ (b ++ (c ++ d))) four (rw is at all)
