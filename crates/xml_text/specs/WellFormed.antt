-- When bytes are well-formed XML: elements whose tags balance, with attributes and texts in which nothing is to be
-- escaped.
use Rattle.std.specs.Prelude.{ℕ, Bool, false, true, nat_lt, ◌==◌, ◌&&◌, ◌||◌, not, IsTrue, List, [], ◌∷◌, ◌++◌, map}
use Rattle.std.specs.List.{AllByRecursion, list_all, list_any}
use Rattle.xml_text.specs.Xml.{Attribute, hollow_text, whole_text, is_plain}

-- a text has no quote, ampersand or angle bracket
abbrev pub IsText : List ℕ → Type 0
IsText text = IsTrue (list_all is_plain text)

-- a letter, and a digit
abbrev pub is_letter : ℕ → Bool
is_letter b = (not (nat_lt b 65) && nat_lt b 91) || (not (nat_lt b 97) && nat_lt b 123)

abbrev pub is_digit : ℕ → Bool
is_digit b = not (nat_lt b 48) && nat_lt b 58

-- a name is a letter, and then letters and digits
abbrev pub is_name : List ℕ → Bool
is_name [] = false
is_name (b ∷ bs) = is_letter b && list_all (λ c. is_letter c || is_digit c) bs

abbrev pub same_name : List ℕ → List ℕ → Bool
same_name [] [] = true
same_name [] (c ∷ cs) = false
same_name (b ∷ bs) [] = false
same_name (b ∷ bs) (c ∷ cs) = (b == c) && same_name bs cs

-- no name stands twice
abbrev pub none_twice : List (List ℕ) → Bool
none_twice [] = true
none_twice (name ∷ names) = not (list_any (same_name name) names) && none_twice names

-- attributes have names, each another one, and texts as values
pub record AreAttributes (attributes : List Attribute) : Type 0 where
  pub names : IsTrue (list_all is_name (map (λ a. a.name) attributes))
  pub distinct : IsTrue (none_twice (map (λ a. a.name) attributes))
  pub values : AllByRecursion (λ a. IsText a.value) attributes

-- what may stand in an element: a text, or elements, each with nothing in it or between two tags of its name
pub data IsContent : List ℕ → Type 0 where
  Text : (text : List ℕ) → IsText text → IsContent text
  Hollow : (name : List ℕ) → (attributes : List Attribute) → (rest : List ℕ) → IsTrue (is_name name) → AreAttributes attributes → IsContent rest
      → IsContent (hollow_text name attributes rest)
  Whole : (name : List ℕ) → (attributes : List Attribute) → (inside rest : List ℕ) → IsTrue (is_name name) → AreAttributes attributes
      → IsContent inside → IsContent rest → IsContent (whole_text name attributes inside rest)

-- a document is one element round its content
pub data IsDocument : List ℕ → Type 0 where
  Document : (name : List ℕ) → (attributes : List Attribute) → (inside : List ℕ) → IsTrue (is_name name) → AreAttributes attributes → IsContent inside
      → IsDocument (whole_text name attributes inside [])
