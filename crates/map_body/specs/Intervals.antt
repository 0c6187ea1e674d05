-- The intervals of a MAP, its length, and the elements after its Null (CM-SP-MULPIv3.1, MAP message: an interval ends
-- where the next element begins).
use Rattle.std.specs.Prelude.{ℕ, Bool, ◌==◌, cond, if◌then◌else◌, List, [], ◌∷◌, Option, Some, None}
use Rattle.map_body.specs.declared.element.Element.{Element}
use Rattle.map_body.specs.declared.interval.Interval.{Interval}
use Rattle.map_body.specs.Iucs as iucs

-- the Null is the first element of its IUC, whatever its SID
abbrev pub is_null : Element → Bool
is_null e = e.iuc == iucs.null

-- each element before the Null, up to the next one's offset
abbrev pub intervals : List Element → List Interval
intervals [] = []
intervals (e ∷ []) = []
intervals (e ∷ f ∷ es) = cond (is_null e) [] (record { sid = e.sid; iuc = e.iuc; from = e.offset; to = f.offset } ∷ intervals (f ∷ es))

-- the offset of the Null, which is the length of the map
abbrev pub null_offset : List Element → Option ℕ
null_offset [] = None
null_offset (e ∷ es) = if is_null e then Some e.offset else null_offset es

-- the elements that stand after the Null
abbrev pub after_null : List Element → List Element
after_null [] = []
after_null (e ∷ es) = if is_null e then es else after_null es
