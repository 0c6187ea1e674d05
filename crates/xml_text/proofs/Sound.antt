-- What is rendered is well-formed.
use Rattle.std.proofs.Common.{◌≡◌, ℕ, zero, suc, ◌+◌, ◌/◌, ◌%◌, ◌<◌, ◌==◌, Bool, true, false, ◌&&◌, if◌then◌else◌, List}
use Rattle.std.proofs.Common.{[], ◌∷◌, ◌++◌, codes, decimal, refl, arith}
use Rattle.std.proofs.lemmas.Bool.Decides.{nat_tests}
use Rattle.std.specs.Fmt.{digits, digits_onto, digit_glyph}
use Rattle.std.specs.List.{list_all}
use Rattle.xml_text.specs.Xml.{Drawn, Tag, Xml, attributes_of, contents, drawing, is_plain, name_of, plain, plain_byte}
use Rattle.xml_text.specs.Xml.{render}
use Rattle.xml_text.specs.Xml.Tag.{Svg, Title, Style, Definitions, Group, ArrowHead, Pattern, Line, Rectangle, Circle}
use Rattle.xml_text.specs.Xml.Tag.{Path, Words}
use Rattle.xml_text.specs.Xml.Xml.{Nothing, Hollow, Saying, Holding}
use Rattle.xml_text.specs.WellFormed.{AreAttributes, IsContent, IsDocument, IsText, is_name}
use Rattle.xml_text.specs.WellFormed.IsContent.{Text, Hollow as HollowContent, Whole}
use Rattle.xml_text.specs.WellFormed.IsDocument.{Document}

both : (a b : Bool) → a ≡ true → b ≡ true → (a && b) ≡ true
both true b first second = second
both false b first second = first

onward : (a b c : Bool) → (a && b) ≡ true → (b ≡ true → c ≡ true) → (a && c) ≡ true
onward true b c holds next = next holds
onward false b c holds next = holds

-- texts one behind the other
joined_text : (xs ys : List ℕ) → IsText xs → IsText ys → IsText (xs ++ ys)
joined_text [] ys first second = second
joined_text (x ∷ xs) ys first second =
    onward (is_plain x) (list_all is_plain xs) (list_all is_plain (xs ++ ys)) first (λ rest. joined_text xs ys rest second)

-- a byte that doesn't stand for itself is replaced by one that does
replaced_plain : (b : ℕ) (test : Bool) → is_plain b ≡ test → is_plain (if test then b else 46) ≡ true
replaced_plain b true is = is
replaced_plain b false is = refl

plain_text : (text : List ℕ) → IsText (plain text)
plain_text [] = refl
plain_text (b ∷ bs) = both (is_plain (plain_byte b)) (list_all is_plain (plain bs)) (replaced_plain b (is_plain b) refl) (plain_text bs)

digit_plain : (d : ℕ) → d < 10 → is_plain (digit_glyph false d) ≡ true
digit_plain d small = grind (arith, nat_tests)

one_of : (test : Bool) (xs ys : List ℕ) → IsText xs → IsText ys → IsText (if test then xs else ys)
one_of true xs ys first second = first
one_of false xs ys first second = second

digits_plain : (k n : ℕ) (acc : List ℕ) → IsText acc → IsText (digits_onto k 10 false n acc)
digits_plain zero n acc text = text
digits_plain (suc k) n acc text =
    let digit : ℕ = digit_glyph false (n % 10) in
    let next : IsText (digit ∷ acc) = both (is_plain digit) (list_all is_plain acc) (digit_plain (n % 10) (omega arith)) text in
    one_of (n / 10 == 0) (digit ∷ acc) (digits_onto k 10 false (n / 10) (digit ∷ acc)) next (digits_plain k (n / 10) (digit ∷ acc) next)

decimal_text : (n : ℕ) → IsText (decimal n)
unfolding digits
decimal_text n = digits_plain 64 n [] refl

view_text : (width height : ℕ) → IsText (codes "0 0 " ++ (decimal width ++ (codes " " ++ decimal height)))
view_text width height =
    joined_text (decimal width) (codes " " ++ decimal height) (decimal_text width) (joined_text (codes " ") (decimal height) refl (decimal_text height))

named : (tag : Tag) → is_name (name_of tag) ≡ true
named (Svg width height) = refl
named Title = refl
named Style = refl
named Definitions = refl
named Group = refl
named (ArrowHead id) = refl
named (Pattern id size) = refl
named (Line x1 y1 x2 y2 class) = refl
named (Rectangle x y width height class) = refl
named (Circle x y radius class) = refl
named (Path steps class) = refl
named (Words x y class) = refl

attributed : (tag : Tag) → AreAttributes (attributes_of tag)
attributed (Svg width height) = record {
  names = refl;
  distinct = refl;
  values = (refl, (decimal_text width, (decimal_text height, (view_text width height, (refl, tt)))));
}
attributed Title = record { names = refl; distinct = refl; values = tt }
attributed Style = record { names = refl; distinct = refl; values = tt }
attributed Definitions = record { names = refl; distinct = refl; values = tt }
attributed Group = record { names = refl; distinct = refl; values = tt }
attributed (ArrowHead id) = record { names = refl; distinct = refl; values = (plain_text id, (refl, (refl, (refl, (refl, (refl, (refl, tt))))))) }
attributed (Pattern id size) = record { names = refl; distinct = refl; values = (plain_text id, (decimal_text size, (decimal_text size, (refl, tt)))) }
attributed (Line x1 y1 x2 y2 class) = record {
  names = refl;
  distinct = refl;
  values = (decimal_text x1, (decimal_text y1, (decimal_text x2, (decimal_text y2, (plain_text class, tt)))));
}
attributed (Rectangle x y width height class) = record {
  names = refl;
  distinct = refl;
  values = (decimal_text x, (decimal_text y, (decimal_text width, (decimal_text height, (refl, (plain_text class, tt))))));
}
attributed (Circle x y radius class) = record { names = refl; distinct = refl; values = (decimal_text x, (decimal_text y, (decimal_text radius, (plain_text class, tt)))) }
attributed (Path steps class) = record { names = refl; distinct = refl; values = (plain_text steps, (plain_text class, tt)) }
attributed (Words x y class) = record { names = refl; distinct = refl; values = (decimal_text x, (decimal_text y, (plain_text class, tt))) }

-- elements, whichever they are
pub sound : (x : Xml) → IsContent (render x)
sound Nothing = Text [] refl
sound (Hollow tag rest) = HollowContent (name_of tag) (attributes_of tag) (render rest) (named tag) (attributed tag) (sound rest)
sound (Saying tag text rest) =
    Whole (name_of tag) (attributes_of tag) (plain text) (render rest) (named tag) (attributed tag) (Text (plain text) (plain_text text)) (sound rest)
sound (Holding tag inside rest) =
    Whole (name_of tag) (attributes_of tag) (render inside) (render rest) (named tag) (attributed tag) (sound inside) (sound rest)

-- a drawing
pub sound_drawing : (width height : ℕ) (title style : List ℕ) (known : Xml) (d : Drawn) → IsDocument (render (drawing width height title style known d))
sound_drawing width height title style known d =
    Document (name_of (Svg width height)) (attributes_of (Svg width height)) (render (contents width height title style known d))
    (named (Svg width height)) (attributed (Svg width height)) (sound (contents width height title style known d))
