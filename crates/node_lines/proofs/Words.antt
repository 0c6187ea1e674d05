-- Words at the front of lines.
use Rattle.std.proofs.Common.{◌≡◌, ℕ, ◌+◌, ◌-◌, List, ◌++◌, length, drop, sym, ap, ◌∙◌, arith}
use Rattle.std.proofs.lemmas.List.{drop_at, length-append}

pub place_behind : (line word digits : List ℕ) → line ≡ word ++ digits → line ≡ word ++ drop (length line - length digits) line
place_behind line word digits is =
    let len : length line ≡ length word + length digits = ap (λ (x : List ℕ). length x) is ∙ length-append word digits in
    let place : length word ≡ length line - length digits = omega (arith, len) in
    let behind : drop (length line - length digits) line ≡ digits = ap (drop (length line - length digits)) is ∙ drop_at word digits (length line - length digits) place in
    is ∙ ap (λ (x : List ℕ). word ++ x) (sym behind)
