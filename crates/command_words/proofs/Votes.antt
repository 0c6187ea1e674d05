-- The texts of items, one after another.
use Rattle.std.proofs.Common.{◌≡◌, ◌<◌, ◌+◌, ℕ, suc, List, ◌∷◌, ◌++◌, sym, ap, ◌∙◌, append_assoc, flat_map}
use Rattle.std.proofs.Common.{length, drop, get_or, add-one}
use Rattle.std.proofs.Math.Seq.{drop-cons}

-- with the text of one item more
pub item_more : {A : Type 0} (f : A → List ℕ) (items : List A) (i : ℕ) (item : A) (old new whole : List ℕ) → i < length items
    → item ≡ get_or items i item → new ≡ old ++ f item → old ++ flat_map f (drop i items) ≡ whole → new ++ flat_map f (drop (i + 1) items) ≡ whole
item_more {A} f items i item old new whole below is grown before =
    let first : drop i items ≡ item ∷ drop (i + 1) items =
    drop-cons items i item below ∙ ap (λ (x : A). x ∷ drop (suc i) items) (sym is) ∙ ap (λ n. item ∷ drop n items) (sym (add-one i)) in
    let next : old ++ (f item ++ flat_map f (drop (i + 1) items)) ≡ whole = rw first at before in
    rw grown (append_assoc old (f item) (flat_map f (drop (i + 1) items)) ∙ next)
