-- What crates above cite of elements that are joined.
use Rattle.std.proofs.Common.{◌≡◌, ℕ, suc, ◌+◌, List, ◌++◌, ap, ◌∙◌, sym, append_assoc, add-one}
use Rattle.xml_text.specs.Xml.{Xml, join, render}
use Rattle.xml_text.specs.Each.{each}
use Rattle.xml_text.proofs.Joined.{render_join}

-- the text of elements that are joined is that of both, one behind the other
pub joined : (a b : Xml) → render (join a b) ≡ render a ++ render b
joined a b = render_join a b

-- one more is added behind n
pub each_more : (n : ℕ) (f : ℕ → Xml) (old before after : List ℕ) → before ≡ old ++ render (each n f) → after ≡ before ++ render (f n)
    → after ≡ old ++ render (each (n + 1) f)
each_more n f old before after so_far added =
    let more : render (each (suc n) f) ≡ render (each n f) ++ render (f n) = render_join (each n f) (f n) in
    let whole : after ≡ old ++ render (each (suc n) f) =
    added ∙ ap (λ t. t ++ render (f n)) so_far ∙ append_assoc old (render (each n f)) (render (f n)) ∙ ap (λ t. old ++ t) (sym more) in
    rw (add-one n) whole
