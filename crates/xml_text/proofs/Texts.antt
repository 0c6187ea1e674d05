-- Long texts of elements, over plain variables.
use Rattle.std.proofs.Common.{◌≡◌, ℕ, List, [], ◌++◌, codes, decimal, ap, ◌∙◌, sym, append_assoc}
use Rattle.xml_text.specs.Xml.{Drawn, Xml, arrow_head, contents, drawing, join, layers_of, pattern, plain, render, said}
use Rattle.xml_text.specs.Xml.{shape}
use Rattle.xml_text.specs.Xml.Tag.{Definitions, Path, Rectangle, Style, Title}
use Rattle.xml_text.specs.Xml.Xml.{Holding, Nothing}
use Rattle.xml_text.proofs.Joined.{render_join, render_layers}
use Rattle.xml_text.proofs.Pushed.{begun}

pub rectangle_is : (x y width height : ℕ) (class own tail text : List ℕ) → own ≡ plain class
    → tail ≡ codes " height=\"" ++ (decimal height ++ (codes "\" rx=\"0\" class=\"" ++ (own ++ codes "\"/>")))
    → text ≡ codes "<rect x=\"" ++ (decimal x ++ (codes "\" y=\"" ++ (decimal y ++ (codes "\" width=\"" ++ (decimal width ++ (codes "\"" ++ tail))))))
    → text ≡ render (shape (Rectangle x y width height class))
rectangle_is x y width height class own tail text is_own is_tail is_text =
    is_text
    ∙ ap (λ t. codes "<rect x=\"" ++ (decimal x ++ (codes "\" y=\"" ++ (decimal y ++ (codes "\" width=\"" ++ (decimal width ++ (codes "\"" ++ t))))))) is_tail
    ∙ ap (λ t. codes "<rect x=\"" ++ (decimal x ++ (codes "\" y=\"" ++ (decimal y ++ (codes "\" width=\"" ++ (decimal width ++ (codes "\" height=\"" ++ (decimal height
    ++ (codes "\" rx=\"0\" class=\"" ++ (t ++ codes "\"/>")))))))))) is_own

pub arrow_head_is : (id class own path text : List ℕ) → own ≡ plain id → path ≡ render (shape (Path (codes "M0 0L8 4L0 8z") class))
    → text ≡ codes "<marker id=\"" ++ (own
    ++ (codes "\" refX=\"7\" refY=\"4\" markerWidth=\"8\" markerHeight=\"8\" markerUnits=\"userSpaceOnUse\" orient=\"auto\">" ++ (path ++ codes "</marker>")))
    → text ≡ render (arrow_head id class)
arrow_head_is id class own path text is_own is_path is_text =
    let tail : List ℕ → List ℕ =
    λ t. codes "\" refX=\"7\" refY=\"4\" markerWidth=\"8\" markerHeight=\"8\" markerUnits=\"userSpaceOnUse\" orient=\"auto\">" ++ (t ++ codes "</marker>") in
    is_text ∙ ap (λ t. codes "<marker id=\"" ++ (t ++ tail path)) is_own ∙ ap (λ t. codes "<marker id=\"" ++ (plain id ++ tail t)) is_path

pub pattern_is : (id : List ℕ) (size : ℕ) (steps class own path text : List ℕ) → own ≡ plain id → path ≡ render (shape (Path steps class))
    → text ≡ codes "<pattern id=\"" ++ (own ++ (codes "\" width=\"" ++ (decimal size ++ (codes "\" height=\"" ++ (decimal size
    ++ (codes "\" patternUnits=\"userSpaceOnUse\">" ++ (path ++ codes "</pattern>")))))))
    → text ≡ render (pattern id size steps class)
pattern_is id size steps class own path text is_own is_path is_text =
    let tail : List ℕ → List ℕ = λ t. codes "\" width=\"" ++ (decimal size ++ (codes "\" height=\"" ++ (decimal size
    ++ (codes "\" patternUnits=\"userSpaceOnUse\">" ++ (t ++ codes "</pattern>"))))) in
    is_text ∙ ap (λ t. codes "<pattern id=\"" ++ (t ++ tail path)) is_own ∙ ap (λ t. codes "<pattern id=\"" ++ (plain id ++ tail t)) is_path

-- what is in a drawing, element by element
pub contents_is : (width height : ℕ) (title style : List ℕ) (known : Xml) (d : Drawn) (o0 o1 o2 o3 o4 o5 : List ℕ) → o0 ≡ []
    → o1 ≡ o0 ++ render (said Title title) → o2 ≡ o1 ++ render (said Style style) → o3 ≡ o2 ++ render (Holding Definitions known Nothing)
    → o4 ≡ o3 ++ render (shape (Rectangle 0 0 width height (codes "bg"))) → o5 ≡ o4 ++ render (layers_of d)
    → o5 ≡ render (contents width height title style known d)
contents_is width height title style known d o0 o1 o2 o3 o4 o5 nothing titled styled defined grounded layered =
    let a : Xml = said Title title in
    let b : Xml = said Style style in
    let c : Xml = Holding Definitions known Nothing in
    let g : Xml = shape (Rectangle 0 0 width height (codes "bg")) in
    let one : o1 ≡ render a = begun _ _ _ nothing titled in
    let two : o2 ≡ render (join a b) = styled ∙ ap (λ t. t ++ render b) one ∙ sym (render_join a b) in
    let three : o3 ≡ render (join (join a b) c) = defined ∙ ap (λ t. t ++ render c) two ∙ sym (render_join (join a b) c) in
    let four : o4 ≡ render (join (join (join a b) c) g) = grounded ∙ ap (λ t. t ++ render g) three ∙ sym (render_join (join (join a b) c) g) in
    layered ∙ ap (λ t. t ++ render (layers_of d)) four ∙ sym (render_join (join (join (join a b) c) g) (layers_of d))

pub layered_is : (d : Drawn) (old o1 o2 o3 o4 o5 r b a m l : List ℕ) → r ≡ render d.rules → b ≡ render d.bands → a ≡ render d.arrows → m ≡ render d.marks → l ≡ render d.labels
    → o1 ≡ old ++ r → o2 ≡ o1 ++ b → o3 ≡ o2 ++ a → o4 ≡ o3 ++ m → o5 ≡ o4 ++ l → o5 ≡ old ++ render (layers_of d)
layered_is d old o1 o2 o3 o4 o5 r b a m l ruled banded arrowed marked labelled one two three four five =
    let whole : o5 ≡ old ++ (r ++ (b ++ (a ++ (m ++ l)))) =
    five ∙ ap (λ t. t ++ l) four ∙ append_assoc o3 m l ∙ ap (λ t. t ++ (m ++ l)) three ∙ append_assoc o2 a (m ++ l) ∙ ap (λ t. t ++ (a ++ (m ++ l))) two
    ∙ append_assoc o1 b (a ++ (m ++ l)) ∙ ap (λ t. t ++ (b ++ (a ++ (m ++ l)))) one ∙ append_assoc old r (b ++ (a ++ (m ++ l))) in
    rw (render_layers d) (rw (ruled, banded, arrowed, marked, labelled) at whole)

pub drawing_is : (width height : ℕ) (title style : List ℕ) (known : Xml) (d : Drawn) (inside tail text : List ℕ) → inside ≡ render (contents width height title style known d)
    → tail ≡ codes " viewBox=\"0 0 " ++ (decimal width ++ (codes " " ++ (decimal height ++ (codes "\" role=\"img\">" ++ (inside ++ codes "</svg>")))))
    → text ≡ codes "<svg xmlns=\"http://www.w3.org/2000/svg\" width=\"" ++ (decimal width ++ (codes "\" height=\"" ++ (decimal height ++ (codes "\"" ++ tail))))
    → text ≡ render (drawing width height title style known d)
drawing_is width height title style known d inside tail text is_inside is_tail is_text =
    let head : List ℕ → List ℕ = λ t. codes "<svg xmlns=\"http://www.w3.org/2000/svg\" width=\"" ++ (decimal width ++ (codes "\" height=\"" ++ (decimal height ++ (codes "\"" ++ t)))) in
    let last : List ℕ → List ℕ = λ t. codes "\" role=\"img\">" ++ (t ++ codes "</svg>") in
    is_text ∙ ap head is_tail ∙ ap (λ t. head (codes " viewBox=\"0 0 " ++ (decimal width ++ (codes " " ++ (decimal height ++ last t))))) is_inside
    ∙ ap (λ t. head (codes " viewBox=\"0 0 " ++ t)) (sym (append_assoc (decimal width) (codes " " ++ decimal height) (last (render (contents width height title style known d)))))
