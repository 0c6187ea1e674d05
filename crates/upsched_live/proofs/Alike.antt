-- Lists whose elements are alike.
use Rattle.std.proofs.Common.{◌≡◌, ◌∙◌, ◌<◌, ℕ, List, [], ◌∷◌, All, map, length, get_or, sym, ap, subst}
use Rattle.std.proofs.lemmas.List.{get_or-map, length-map}
use Rattle.std.proofs.lemmas.List.Elements.{All-nil, All-cons, All-head, All-tail}

-- what each element of one list is, each element of the other is
pub all_alike : {A : Type 0} (f : A → ℕ) (n : ℕ) (xs ys : List A) → map f xs ≡ map f ys → All (λ y. f y ≡ n) ys → All (λ x. f x ≡ n) xs
all_alike f n xs ys same each i d lt =
    let size : length xs ≡ length ys = sym (length-map xs f) ∙ (ap length same ∙ length-map ys f) in
    let lt' : i < length ys = subst (λ m. i < m) size lt in
    sym (get_or-map f xs i d (f d) lt) ∙ (ap (λ ms. get_or ms i (f d)) same ∙ (get_or-map f ys i d (f d) lt' ∙ each i d lt'))

-- what each element of one list is, each element of another is, where the two are told alike
pub all_told_alike : {A B : Type 0} (f : A → ℕ) (g : B → ℕ) (n : ℕ) (xs : List A) (ys : List B) → map f xs ≡ map g ys → All (λ y. g y ≡ n) ys → All (λ x. f x ≡ n) xs
all_told_alike f g n [] ys same each = All-nil (λ x. f x ≡ n)
all_told_alike f g n (x ∷ xs) [] same each = absurd cc
all_told_alike f g n (x ∷ xs) (y ∷ ys) same each =
    let here : f x ≡ g y = cc in
    let rest : map f xs ≡ map g ys = cc in
    All-cons (λ z. f z ≡ n) x xs (here ∙ All-head (λ z. g z ≡ n) y ys each) (all_told_alike f g n xs ys rest (All-tail (λ z. g z ≡ n) y ys each))
