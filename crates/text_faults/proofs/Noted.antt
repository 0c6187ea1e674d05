-- What is noted behind what is there already.
use Rattle.std.proofs.Common.{◌≡◌, ℕ, ◌+◌, ◌<◌, List, [], ◌∷◌, ◌++◌, length, get_or, take, Option, Some, None}
use Rattle.std.proofs.Common.{filter_map, append_assoc, append-nil}
use Rattle.std.proofs.lemmas.List.{take_more}
use Rattle.std.proofs.lemmas.List.Elements.{filter_map-append}

-- nothing is noted of one item more
pub none_more : {X Y : Type 0} (h : X → Option Y) (xs : List X) (i : ℕ) (d : X) (old now : List Y) → i < length xs → now ≡ old ++ filter_map h (take i xs) → None ≡ h (get_or xs i d) → now ≡ old ++ filter_map h (take (i + 1) xs)
none_more h xs i d old now below before none =
    rw (take_more xs i d below, filter_map-append h (take i xs) (get_or xs i d ∷ []), ← none, append-nil) before

-- something is
pub one_more : {X Y : Type 0} (h : X → Option Y) (xs : List X) (i : ℕ) (d : X) (y : Y) (old now : List Y) → i < length xs → now ≡ old ++ filter_map h (take i xs) → Some y ≡ h (get_or xs i d) → now ++ y ∷ [] ≡ old ++ filter_map h (take (i + 1) xs)
one_more h xs i d y old now below before some =
    rw (take_more xs i d below, filter_map-append h (take i xs) (get_or xs i d ∷ []), ← some, before) (append_assoc old (filter_map h (take i xs)) (y ∷ []))
