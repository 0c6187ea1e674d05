-- Texts that are renderings, one element after another.
use Rattle.std.proofs.Common.{◌≡◌, ℕ, List, [], ◌++◌, Result, OnOk, ap, subst, ◌∙◌, sym}
use Rattle.xml_text.specs.Xml.{Tag, Xml, join, render, said, shape, titled}
use Rattle.xml_text.proofs.Callers.{joined}
use Rattle.run_picture.specs.Heads.{IsRendered}

-- with one more
pub grown : (old new : List ℕ) (y : Xml) → IsRendered old → new ≡ old ++ render y → IsRendered new
grown old new y (x, is_old) more = (join x y, more ∙ ap (λ t. t ++ render y) is_old ∙ sym (joined x y))

-- the first, onto nothing
pub begun : (old new : List ℕ) (x : Xml) → old ≡ [] → new ≡ old ++ render x → new ≡ render x
begun old new x nothing more = more ∙ ap (λ t. t ++ render x) nothing

-- one more behind what is known
pub behind : (old new : List ℕ) (x y : Xml) → old ≡ render x → new ≡ old ++ render y → new ≡ render (join x y)
behind old new x y is_old more = more ∙ ap (λ t. t ++ render y) is_old ∙ sym (joined x y)

-- a shape under another name
pub other_tag : {T E : Type 0} (r : Result T E) (old new title : List ℕ) (s t : Tag) → s ≡ t
    → OnOk r (new ≡ old ++ render (titled title (shape s))) → OnOk r (new ≡ old ++ render (titled title (shape t)))
other_tag r old new title s t same = subst (λ (u : Tag). OnOk r (new ≡ old ++ render (titled title (shape u)))) same

pub other_title : {T E : Type 0} (r : Result T E) (old new title other : List ℕ) (s : Tag) → title ≡ other
    → OnOk r (new ≡ old ++ render (titled title (shape s))) → OnOk r (new ≡ old ++ render (titled other (shape s)))
other_title r old new title other s same = subst (λ (u : List ℕ). OnOk r (new ≡ old ++ render (titled u (shape s)))) same

-- words in a tag under other names
pub other_words : {T E : Type 0} (r : Result T E) (old new words other : List ℕ) (s t : Tag) → s ≡ t → words ≡ other
    → OnOk r (new ≡ old ++ render (said s words)) → OnOk r (new ≡ old ++ render (said t other))
other_words r old new words other s t same alike h =
    subst (λ (u : List ℕ). OnOk r (new ≡ old ++ render (said t u))) alike (subst (λ (u : Tag). OnOk r (new ≡ old ++ render (said u words))) same h)
