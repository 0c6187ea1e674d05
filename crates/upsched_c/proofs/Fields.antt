-- What the loops over elements and their fields rest on.
use Rattle.std.proofs.Common.{◌≡◌, ℕ, zero, suc, ◌+◌, ◌<◌, ◌≤◌, List, [], ◌∷◌, ◌++◌, length, take, drop, set, get_or}
use Rattle.std.proofs.Common.{Some, refl, ap, subst, sym, ◌∙◌, arith, slice_get}
use borrow.Author.Count.{below_more}
use Rattle.map_body.specs.Rules.{FitsElement}
use Rattle.upsched_c.specs.declared.structs.MapElement.{MapElement}
use Rattle.upsched_c.specs.Codec.{FitBefore}
use Rattle.upsched_c.specs.Structs.{element_value}

-- an element that fits stands after those that do
pub fit_more : (es : List MapElement) (i : ℕ) (e : MapElement) → FitBefore es i → slice_get es i ≡ Some e → FitsElement (element_value e) → FitBefore es (i + 1)
fit_more es i e before at fits =
    let one : (e' : MapElement) → Some e ≡ Some e' → e ≡ e' = λ e' same. cc in
    below_more (λ k. (e' : MapElement) → slice_get es k ≡ Some e' → FitsElement (element_value e')) i before
    (λ e' got. subst (λ (x : MapElement). FitsElement (element_value x)) (one e' (sym at ∙ got)) fits)

-- the element at a place, read at any default
pub element_at : {X : Type 0} (xs : List X) (i : ℕ) (d : X) → i < length xs → slice_get xs i ≡ Some (get_or xs i d)
element_at [] i d within = absurd (omega arith)
element_at (x ∷ xs) zero d within = refl
element_at (x ∷ xs) (suc i) d within = element_at xs i d (omega arith)

-- with the next one of a list written, one more of it stands at the front
pub one_more_in_front : {X : Type 0} (found olds : List X) (i : ℕ) (d : X) → i < length found → length found ≤ length olds
    → set (take i found ++ drop i olds) i (get_or found i d) ≡ take (suc i) found ++ drop (suc i) olds
one_more_in_front [] olds i d within room = absurd (omega arith)
one_more_in_front (x ∷ found) [] i d within room = absurd (omega arith)
one_more_in_front (x ∷ found) (y ∷ olds) zero d within room = refl
one_more_in_front {X = X} (x ∷ found) (y ∷ olds) (suc i) d within room =
    ap (λ (xs : List X). x ∷ xs) (one_more_in_front found olds i d (omega arith) (omega arith))
