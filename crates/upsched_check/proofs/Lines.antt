-- The lines of mapped items, one item after another.
use Rattle.std.proofs.Common.{◌≡◌, ℕ, ◌+◌, ◌<◌, List, [], ◌∷◌, ◌++◌, length, take, get_or, map, Option, ap, ◌∙◌}
use Rattle.std.proofs.Common.{append-nil}
use Rattle.std.specs.List.{flat_map}
use Rattle.std.specs.Io.KnownBytes.{Appends}
use Rattle.std.proofs.KnownBytes.{Appends-trans}
use Rattle.std.proofs.lemmas.List.{take_more, map-append}
use Rattle.std.proofs.lemmas.List.Concat.{flat_map-append}

pub one_line_more : {X Y : Type 0} (line : Y → List ℕ) (f : X → Y) (xs : List X) (i : ℕ) (x : X) (old mid new : Option (List ℕ)) → i < length xs → x ≡ get_or xs i x
    → Appends old mid (flat_map line (map f (take i xs))) → Appends mid new (line (f x)) → Appends old new (flat_map line (map f (take (i + 1) xs)))
one_line_more line f xs i x old mid new below here before more =
    let front = map f (take i xs) in
    let whole : map f (take (i + 1) xs) ≡ front ++ f x ∷ [] = rw (take_more xs i x below, ← here) (map-append f (take i xs) (x ∷ [])) in
    let lines : flat_map line (map f (take (i + 1) xs)) ≡ flat_map line front ++ line (f x) =
    ap (flat_map line) whole ∙ flat_map-append line front (f x ∷ []) ∙ ap (λ l. flat_map line front ++ l) (append-nil (line (f x))) in
    rw lines (Appends-trans old mid new _ _ before more)
