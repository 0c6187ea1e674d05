-- The elements of a MAP, and a MAP body, as JSON.
use Rattle.std.specs.Prelude.{ℕ, ◌-◌, ◌||◌, Bool, false, if◌then◌else◌, List, [], ◌∷◌, codes}
use Rattle.map_body.specs.declared.element.Element.{Element}
use Rattle.map_body.specs.Body.{Body}
use Rattle.map_body.specs.Intervals.{is_null}
use Rattle.serde_json.specs.Data.{Data, array, object, Members, no_members, put}
use Rattle.serde_json.specs.View.{items_of}
use Rattle.map_body.specs.Iucs.{iuc_name}
use Rattle.json_outputs.specs.Fields.{with_number, with_text, with_time}

-- an element that has so many minislots
abbrev pub element_data : Element → ℕ → Data
element_data e minislots = object
    (with_text (codes "name") (iuc_name e.iuc) (with_number (codes "iuc") e.iuc
    (with_number (codes "sid") e.sid (with_number (codes "minislots") minislots (with_number (codes "offset") e.offset no_members)))))

-- the minislots from an element to the next one
abbrev pub gap : Element → List Element → ℕ
gap e [] = 0
gap e (next ∷ es) = next.offset - e.offset

-- elements in order, behind the Null or not: from the Null on they have no minislots
abbrev pub elements_from : Bool → List Element → List Data
elements_from behind [] = []
elements_from behind (e ∷ es) =
    element_data e (if behind || is_null e then 0 else gap e es) ∷ elements_from (behind || is_null e) es

abbrev pub elements_data : List Element → Data
elements_data es = array (items_of (elements_from false es))

-- a body: the fields of its head, and its elements
abbrev pub head_members : Body → Members
head_members map =
    with_number (codes "data_end") map.head.data_backoff.1 (with_number (codes "data_start") map.head.data_backoff.0
    (with_number (codes "ranging_end") map.head.ranging_backoff.1 (with_number (codes "ranging_start") map.head.ranging_backoff.0
    (with_time (codes "ack") map.head.ack (with_time (codes "start") map.head.start
    (with_number (codes "ucd") map.head.ucd (with_number (codes "channel") map.head.channel no_members)))))))

abbrev pub body_data : Body → Data
body_data map = object (put (codes "elements") (elements_data map.elements) (head_members map))
