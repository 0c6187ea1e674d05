-- The printed lines of a MAP body with the name of each IUC.
use Rattle.std.specs.Prelude.{List, [], ◌∷◌, ◌++◌, ℕ, codes, flat_map}
use Rattle.map_body.specs.declared.element.Element.{Element}
use Rattle.map_body.specs.Body.{Body}
use Rattle.map_body.specs.Iucs.{iuc_name}
use Rattle.upsched_maps.specs.Lines.{element_text, head_text}

-- the line of an element as `show` prints it, with the name of its IUC behind the number
abbrev pub named_line : Element → List ℕ
named_line e = element_text e ++ (codes " " ++ (iuc_name e.iuc ++ 10 ∷ []))

-- those of elements in order, and those of a MAP body
abbrev pub named_lines : List Element → List ℕ
named_lines es = flat_map named_line es

abbrev pub named_body_lines : Body → List ℕ
named_body_lines map = head_text map.head ++ 10 ∷ [] ++ named_lines map.elements
