-- Lists with the same images.
use Rattle.std.proofs.Common.{◌≡◌, List, [], ◌∷◌, map, refl}

pub same_lists : {V W : Type 0} (f : V → W) → ((v w : V) → f v ≡ f w → v ≡ w) → (vs ws : List V) → map f vs ≡ map f ws → vs ≡ ws
same_lists f one [] [] e = refl
same_lists f one [] (w ∷ ws) e = absurd cc
same_lists f one (v ∷ vs) [] e = absurd cc
same_lists f one (v ∷ vs) (w ∷ ws) e =
    let head : f v ≡ f w = cc in
    let tail : map f vs ≡ map f ws = cc in
    let first = one v w head in
    let rest = same_lists f one vs ws tail in
    cc
