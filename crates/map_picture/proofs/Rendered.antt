-- Texts that are renderings, one element after another.
use Rattle.std.proofs.Common.{◌≡◌, ℕ, ◌+◌, List, [], ◌++◌, Option, Some, Result, OnOk, ap, subst, ◌∙◌, sym}
use Rattle.std.proofs.Common.{append_assoc}
use Rattle.xml_text.specs.Xml.{Tag, Xml, join, render, said, shape, titled}
use Rattle.xml_text.specs.Each.{each}
use Rattle.xml_text.proofs.Callers.{each_more, joined}
use Rattle.map_picture.specs.Pictures.{IsRendered}

-- two, one behind the other
pub behind : (old middle new : List ℕ) (a b : Xml) → middle ≡ old ++ render a → new ≡ middle ++ render b → new ≡ old ++ render (join a b)
behind old middle new a b first second =
    second ∙ ap (λ t. t ++ render b) first ∙ append_assoc old (render a) (render b) ∙ ap (λ t. old ++ t) (sym (joined a b))

-- with one more
pub grown : (old new : List ℕ) (y : Xml) → IsRendered old → new ≡ old ++ render y → IsRendered new
grown old new y (x, is_old) more = (join x y, more ∙ ap (λ t. t ++ render y) is_old ∙ sym (joined x y))

-- the first, onto nothing
pub begun : (old new : List ℕ) (x : Xml) → old ≡ [] → new ≡ old ++ render x → new ≡ render x
begun old new x nothing more = more ∙ ap (λ t. t ++ render x) nothing

-- one more, where f draws what is at each number
pub next : {A : Type 0} (k : ℕ) (f : Option A → Xml) (at : ℕ → Option A) (a : A) (old before after : List ℕ) → at k ≡ Some a
    → before ≡ old ++ render (each k (λ j. f (at j))) → after ≡ before ++ render (f (Some a)) → after ≡ old ++ render (each (k + 1) (λ j. f (at j)))
next k f at a old before after there so_far added =
    each_more k (λ j. f (at j)) old before after so_far (added ∙ ap (λ o. before ++ render (f o)) (sym there))

-- a shape, its title, and words under other names
pub other_shape : {T E : Type 0} (r : Result T E) (old new title other : List ℕ) (s t : Tag) → title ≡ other → s ≡ t
    → OnOk r (new ≡ old ++ render (titled title (shape s))) → OnOk r (new ≡ old ++ render (titled other (shape t)))
other_shape r old new title other s t alike same h =
    subst (λ (u : List ℕ). OnOk r (new ≡ old ++ render (titled u (shape t)))) alike (subst (λ (u : Tag). OnOk r (new ≡ old ++ render (titled title (shape u)))) same h)

pub other_words : {T E : Type 0} (r : Result T E) (old new words other : List ℕ) (s : Tag) → words ≡ other
    → OnOk r (new ≡ old ++ render (said s words)) → OnOk r (new ≡ old ++ render (said s other))
other_words r old new words other s alike h = subst (λ (u : List ℕ). OnOk r (new ≡ old ++ render (said s u))) alike h
