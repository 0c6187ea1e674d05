-- The lines of items, one item after another.
use Rattle.std.proofs.Common.{◌≡◌, ℕ, ◌+◌, ◌<◌, List, [], ◌∷◌, ◌++◌, length, take, get_or, Option, ap, sym, ◌∙◌}
use Rattle.std.proofs.Common.{append-nil}
use Rattle.std.specs.List.{flat_map}
use Rattle.std.specs.Io.KnownBytes.{Appends}
use Rattle.std.proofs.KnownBytes.{Appends-trans}
use Rattle.std.proofs.lemmas.List.{take_more}
use Rattle.std.proofs.lemmas.List.Concat.{flat_map-append}

pub line_more : {X : Type 0} (line : X → List ℕ) (xs : List X) (i : ℕ) (x : X) (old mid new : Option (List ℕ)) → i < length xs → x ≡ get_or xs i x
    → Appends old mid (flat_map line (take i xs)) → Appends mid new (line x) → Appends old new (flat_map line (take (i + 1) xs))
line_more {X} line xs i x old mid new below here before more =
    let whole : take (i + 1) xs ≡ take i xs ++ x ∷ [] = take_more xs i x below ∙ ap (λ (y : X). take i xs ++ y ∷ []) (sym here) in
    let lines : flat_map line (take (i + 1) xs) ≡ flat_map line (take i xs) ++ line x =
    ap (flat_map line) whole ∙ flat_map-append line (take i xs) (x ∷ []) ∙ ap (λ (l : List ℕ). flat_map line (take i xs) ++ l) (append-nil (line x)) in
    rw lines (Appends-trans old mid new _ _ before more)
