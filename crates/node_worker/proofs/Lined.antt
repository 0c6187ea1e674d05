-- A list that is passed over to another, one after another.
use Rattle.std.proofs.Common.{◌≡◌, List, [], ◌∷◌, ◌++◌, map, sym, ap, ◌∙◌, append_assoc}
use Rattle.std.proofs.lemmas.List.{append-nil, map-append}

-- one more has passed over
pub one_over : {A B C : Type 0} (f : A → C) (g : B → C) (xs xs' : List A) (ys ys' : List B) (x : A) (y : B) (all : List C)
    → xs' ≡ xs ++ x ∷ [] → ys ≡ y ∷ ys' → f x ≡ g y → map f xs ++ map g ys ≡ all → map f xs' ++ map g ys' ≡ all
one_over f g xs xs' ys ys' x y all pushed taken same were =
    ap (λ zs. map f zs ++ map g ys') pushed
    ∙ (ap (λ zs. zs ++ map g ys') (map-append f xs (x ∷ []))
    ∙ (append_assoc (map f xs) (f x ∷ []) (map g ys')
    ∙ (ap (λ z. map f xs ++ z ∷ map g ys') same ∙ (ap (λ zs. map f xs ++ map g zs) (sym taken) ∙ were))))

-- all have
pub all_over : {A B C : Type 0} (f : A → C) (g : B → C) (xs : List A) (ys : List B) (all : List C) → ys ≡ [] → map f xs ++ map g ys ≡ all → map f xs ≡ all
all_over f g xs ys all none were = sym (append-nil (map f xs)) ∙ (ap (λ zs. map f xs ++ map g zs) (sym none) ∙ were)
