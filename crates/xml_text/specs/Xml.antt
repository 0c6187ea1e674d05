-- A drawing as a tree of elements, and its text.
use Rattle.std.specs.Prelude.{ℕ, Bool, if◌then◌else◌, nat_lt, ◌==◌, ◌&&◌, ◌||◌, not, List, [], ◌∷◌, ◌++◌, map, codes}
use Rattle.std.specs.Prelude.{decimal}

-- ---- texts

-- the bytes that stand for themselves: those of ASCII from the space on, but the quote, the ampersand and angle
-- brackets
abbrev pub is_plain : ℕ → Bool
is_plain b = not (nat_lt b 32) && (nat_lt b 127 && not ((b == 34) || ((b == 38) || ((b == 60) || (b == 62)))))

-- in place of any other byte stands a full stop
abbrev pub plain_byte : ℕ → ℕ
plain_byte b = if is_plain b then b else 46

abbrev pub plain : List ℕ → List ℕ
plain = map plain_byte

-- ---- trees

-- an element's name and attributes: whole numbers, and words
pub data Tag : Type 0 where
  Svg : (width height : ℕ) → Tag
  Title : Tag
  Style : Tag
  Definitions : Tag
  Group : Tag
  ArrowHead : (id : List ℕ) → Tag
  Pattern : (id : List ℕ) → (size : ℕ) → Tag
  Line : (x1 y1 x2 y2 : ℕ) → (class : List ℕ) → Tag
  Rectangle : (x y width height : ℕ) → (class : List ℕ) → Tag
  Circle : (x y radius : ℕ) → (class : List ℕ) → Tag
  Path : (steps class : List ℕ) → Tag
  Words : (x y : ℕ) → (class : List ℕ) → Tag

-- elements one after another: each with nothing in it, with a text, or with elements
pub data Xml : Type 0 where
  Nothing : Xml
  Hollow : (tag : Tag) → (rest : Xml) → Xml
  Saying : (tag : Tag) → (text : List ℕ) → (rest : Xml) → Xml
  Holding : (tag : Tag) → (inside rest : Xml) → Xml

-- the elements of both, in order
abbrev pub join : Xml → Xml → Xml
join Nothing b = b
join (Hollow tag rest) b = Hollow tag (join rest b)
join (Saying tag text rest) b = Saying tag text (join rest b)
join (Holding tag inside rest) b = Holding tag inside (join rest b)

-- the elements of all, in order
abbrev pub join_all : List Xml → Xml
join_all [] = Nothing
join_all (x ∷ xs) = join x (join_all xs)

-- ---- names and attributes

abbrev pub name_of : Tag → List ℕ
name_of (Svg width height) = codes "svg"
name_of Title = codes "title"
name_of Style = codes "style"
name_of Definitions = codes "defs"
name_of Group = codes "g"
name_of (ArrowHead id) = codes "marker"
name_of (Pattern id size) = codes "pattern"
name_of (Line x1 y1 x2 y2 class) = codes "line"
name_of (Rectangle x y width height class) = codes "rect"
name_of (Circle x y radius class) = codes "circle"
name_of (Path steps class) = codes "path"
name_of (Words x y class) = codes "text"

-- an attribute: its name and its value
pub record Attribute : Type 0 where
  pub name : List ℕ
  pub value : List ℕ

abbrev pub number : List ℕ → ℕ → Attribute
number name n = record { name = name; value = decimal n }

abbrev pub words : List ℕ → List ℕ → Attribute
words name text = record { name = name; value = plain text }

abbrev pub fixed : List ℕ → List ℕ → Attribute
fixed name value = record { name = name; value = value }

abbrev pub attributes_of : Tag → List Attribute
attributes_of (Svg width height) =
    fixed (codes "xmlns") (codes "http://www.w3.org/2000/svg") ∷ number (codes "width") width ∷ number (codes "height") height
    ∷ fixed (codes "viewBox") (codes "0 0 " ++ (decimal width ++ (codes " " ++ decimal height))) ∷ fixed (codes "role") (codes "img") ∷ []
attributes_of Title = []
attributes_of Style = []
attributes_of Definitions = []
attributes_of Group = []
attributes_of (ArrowHead id) =
    words (codes "id") id ∷ fixed (codes "refX") (codes "7") ∷ fixed (codes "refY") (codes "4")
    ∷ fixed (codes "markerWidth") (codes "8") ∷ fixed (codes "markerHeight") (codes "8") ∷ fixed (codes "markerUnits") (codes "userSpaceOnUse")
    ∷ fixed (codes "orient") (codes "auto") ∷ []
attributes_of (Pattern id size) =
    words (codes "id") id ∷ number (codes "width") size ∷ number (codes "height") size ∷ fixed (codes "patternUnits") (codes "userSpaceOnUse") ∷ []
attributes_of (Line x1 y1 x2 y2 class) =
    number (codes "x1") x1 ∷ number (codes "y1") y1 ∷ number (codes "x2") x2 ∷ number (codes "y2") y2 ∷ words (codes "class") class ∷ []
attributes_of (Rectangle x y width height class) =
    number (codes "x") x ∷ number (codes "y") y ∷ number (codes "width") width ∷ number (codes "height") height ∷ fixed (codes "rx") (codes "0")
    ∷ words (codes "class") class ∷ []
attributes_of (Circle x y radius class) =
    number (codes "cx") x ∷ number (codes "cy") y ∷ number (codes "r") radius ∷ words (codes "class") class ∷ []
attributes_of (Path steps class) = words (codes "d") steps ∷ words (codes "class") class ∷ []
attributes_of (Words x y class) = number (codes "x") x ∷ number (codes "y") y ∷ words (codes "class") class ∷ []

-- ---- text

-- attributes, each behind a space, and what follows them
abbrev pub attributes_text : List Attribute → List ℕ → List ℕ
attributes_text [] after = after
attributes_text (a ∷ more) after = codes " " ++ (a.name ++ (codes "=\"" ++ (a.value ++ (codes "\"" ++ attributes_text more after))))

-- an element with nothing in it, and what follows
abbrev pub hollow_text : List ℕ → List Attribute → List ℕ → List ℕ
hollow_text name attributes after = codes "<" ++ (name ++ attributes_text attributes (codes "/>" ++ after))

-- an element round what is in it, and what follows
abbrev pub whole_text : List ℕ → List Attribute → (inside after : List ℕ) → List ℕ
whole_text name attributes inside after =
    codes "<" ++ (name ++ attributes_text attributes (codes ">" ++ (inside ++ (codes "</" ++ (name ++ (codes ">" ++ after))))))

-- the text of elements one after another
abbrev pub render : Xml → List ℕ
render Nothing = []
render (Hollow tag rest) = hollow_text (name_of tag) (attributes_of tag) (render rest)
render (Saying tag text rest) = whole_text (name_of tag) (attributes_of tag) (plain text) (render rest)
render (Holding tag inside rest) = whole_text (name_of tag) (attributes_of tag) (render inside) (render rest)

-- ---- what is drawn with

-- an element with nothing in it
abbrev pub shape : Tag → Xml
shape tag = Hollow tag Nothing

-- an element with a text in it
abbrev pub said : Tag → List ℕ → Xml
said tag text = Saying tag text Nothing

-- elements that tell what they are when they are pointed at
abbrev pub titled : List ℕ → Xml → Xml
titled title inside = Holding Group (Saying Title title inside) Nothing

-- an arrow's head, and a pattern
abbrev pub arrow_head : (id class : List ℕ) → Xml
arrow_head id class = Holding (ArrowHead id) (shape (Path (codes "M0 0L8 4L0 8z") class)) Nothing

abbrev pub pattern : (id : List ℕ) → (size : ℕ) → (steps class : List ℕ) → Xml
pattern id size steps class = Holding (Pattern id size) (shape (Path steps class)) Nothing

-- five layers, from the lowest on
pub record Drawn : Type 0 where
  pub rules : Xml
  pub bands : Xml
  pub arrows : Xml
  pub marks : Xml
  pub labels : Xml

abbrev pub layers_of : Drawn → Xml
layers_of d = join d.rules (join d.bands (join d.arrows (join d.marks d.labels)))

-- what is in a drawing: its title, its style and definitions, its ground and its layers
abbrev pub contents : (width height : ℕ) → (title style : List ℕ) → (definitions : Xml) → Drawn → Xml
contents width height title style definitions d =
    Saying Title title (Saying Style style (Holding Definitions definitions (Hollow (Rectangle 0 0 width height (codes "bg")) (layers_of d))))

-- a drawing of a size
abbrev pub drawing : (width height : ℕ) → (title style : List ℕ) → (definitions : Xml) → Drawn → Xml
drawing width height title style definitions d = Holding (Svg width height) (contents width height title style definitions d) Nothing
