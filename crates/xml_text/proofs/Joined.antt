-- The text of elements that are joined is that of both, one behind the other.
use Rattle.std.proofs.Common.{◌≡◌, ℕ, List, [], ◌∷◌, ◌++◌, codes, refl, ap, ◌∙◌, sym, append_assoc}
use Rattle.xml_text.specs.Xml.{Attribute, Drawn, Xml, attributes_of, attributes_text, hollow_text, join, layers_of}
use Rattle.xml_text.specs.Xml.{name_of, plain, render, whole_text}
use Rattle.xml_text.specs.Xml.Xml.{Nothing, Hollow, Saying, Holding}

-- what follows attributes may be parted
pub attributes_then : (attrs : List Attribute) (x y : List ℕ) → attributes_text attrs (x ++ y) ≡ attributes_text attrs x ++ y
attributes_then [] x y = refl
attributes_then (a ∷ attrs) x y =
    let more : codes "\"" ++ attributes_text attrs (x ++ y) ≡ (codes "\"" ++ attributes_text attrs x) ++ y = ap (λ t. codes "\"" ++ t) (attributes_then attrs x y) in
    let valued : a.value ++ (codes "\"" ++ attributes_text attrs (x ++ y)) ≡ (a.value ++ (codes "\"" ++ attributes_text attrs x)) ++ y =
    ap (λ t. a.value ++ t) more ∙ sym (append_assoc a.value (codes "\"" ++ attributes_text attrs x) y) in
    ap (λ t. codes " " ++ t)
    (ap (λ t. a.name ++ (codes "=\"" ++ t)) valued ∙ sym (append_assoc a.name (codes "=\"" ++ (a.value ++ (codes "\"" ++ attributes_text attrs x))) y))

-- what follows an element may be parted
pub hollow_then : (name : List ℕ) (attrs : List Attribute) (x y : List ℕ) → hollow_text name attrs (x ++ y) ≡ hollow_text name attrs x ++ y
hollow_then name attrs x y =
    ap (λ t. codes "<" ++ (name ++ t)) (attributes_then attrs (codes "/>" ++ x) y)
    ∙ ap (λ t. codes "<" ++ t) (sym (append_assoc name (attributes_text attrs (codes "/>" ++ x)) y))

pub whole_then : (name : List ℕ) (attrs : List Attribute) (inside x y : List ℕ) → whole_text name attrs inside (x ++ y) ≡ whole_text name attrs inside x ++ y
whole_then name attrs inside x y =
    let closed : name ++ (codes ">" ++ (x ++ y)) ≡ (name ++ (codes ">" ++ x)) ++ y = sym (append_assoc name (codes ">" ++ x) y) in
    let held : inside ++ (codes "</" ++ (name ++ (codes ">" ++ (x ++ y)))) ≡ (inside ++ (codes "</" ++ (name ++ (codes ">" ++ x)))) ++ y =
    ap (λ t. inside ++ (codes "</" ++ t)) closed ∙ sym (append_assoc inside (codes "</" ++ (name ++ (codes ">" ++ x))) y) in
    ap (λ t. codes "<" ++ (name ++ attributes_text attrs (codes ">" ++ t))) held
    ∙ ap (λ t. codes "<" ++ (name ++ t)) (attributes_then attrs (codes ">" ++ (inside ++ (codes "</" ++ (name ++ (codes ">" ++ x))))) y)
    ∙ ap (λ t. codes "<" ++ t) (sym (append_assoc name (attributes_text attrs (codes ">" ++ (inside ++ (codes "</" ++ (name ++ (codes ">" ++ x)))))) y))

pub render_join : (a b : Xml) → render (join a b) ≡ render a ++ render b
render_join Nothing b = refl
render_join (Hollow tag rest) b =
    ap (hollow_text (name_of tag) (attributes_of tag)) (render_join rest b) ∙ hollow_then (name_of tag) (attributes_of tag) (render rest) (render b)
render_join (Saying tag text rest) b =
    ap (whole_text (name_of tag) (attributes_of tag) (plain text)) (render_join rest b)
    ∙ whole_then (name_of tag) (attributes_of tag) (plain text) (render rest) (render b)
render_join (Holding tag inside rest) b =
    ap (whole_text (name_of tag) (attributes_of tag) (render inside)) (render_join rest b)
    ∙ whole_then (name_of tag) (attributes_of tag) (render inside) (render rest) (render b)

-- layers, one behind the other
pub render_layers : (d : Drawn) → render (layers_of d) ≡ render d.rules ++ (render d.bands ++ (render d.arrows ++ (render d.marks ++ render d.labels)))
render_layers d =
    let upper : render (join d.marks d.labels) ≡ render d.marks ++ render d.labels = render_join d.marks d.labels in
    let three : render (join d.arrows (join d.marks d.labels)) ≡ render d.arrows ++ (render d.marks ++ render d.labels) =
    render_join d.arrows (join d.marks d.labels) ∙ ap (λ t. render d.arrows ++ t) upper in
    let four : render (join d.bands (join d.arrows (join d.marks d.labels))) ≡ render d.bands ++ (render d.arrows ++ (render d.marks ++ render d.labels)) =
    render_join d.bands (join d.arrows (join d.marks d.labels)) ∙ ap (λ t. render d.bands ++ t) three in
    render_join d.rules (join d.bands (join d.arrows (join d.marks d.labels))) ∙ ap (λ t. render d.rules ++ t) four
