-- Bodies that are read or written without memory or room.
use Rattle.std.proofs.Common.{◌≡◌, ℕ, suc, ◌+◌, ◌*◌, ◌≤◌, List, [], ◌∷◌, length, map, refl, ap, ◌∙◌, arith}
use Rattle.std.proofs.lemmas.List.{length-map}
use Rattle.std.specs.List.{AllByRecursion}
use Rattle.map_body.specs.declared.element.Element.{Element}
use Rattle.map_body.specs.Body.{Body}
use Rattle.map_body.specs.Layout.{FitsHead, IsBody, IsWritten, Spells, layout}
use Rattle.map_body.specs.Rules.{AreElements, FitsElement}
use Rattle.upsched_c.specs.declared.status.Status.{Status}
use Rattle.upsched_c.specs.declared.status.Status.TheVariants as statuses
use Rattle.upsched_c.specs.declared.structs.MapHead.{MapHead}
use Rattle.upsched_c.specs.declared.structs.MapElement.{MapElement}
use Rattle.upsched_c.specs.Codec.{AllFit, Decodes, LacksMemory, body_of, read}
use Rattle.upsched_c.specs.Structs.{element_value, head_value}
use Rattle.map_body.proofs.Readings.{spelling_len}

-- a body for which no memory was found is told of by its room first
pub lacks : (bytes : List ℕ) (head : MapHead) (es : List MapElement) (old new : ℕ) (status : Status) (body : Body) → IsBody bytes body
    → LacksMemory (length body.elements) (length es) old new status → Decodes bytes (read head es old) (read head es new) status
lacks bytes head es old new statuses.NoRoom body is told = (body, is, told.0, ap (λ (n : ℕ). read head es n) told.1)
lacks bytes head es old new statuses.OutOfMemory body is told = (body, is, told.0, ap (λ (n : ℕ). read head es n) told.1)
lacks bytes head es old new statuses.Done body is told = absurd told
lacks bytes head es old new statuses.Closed body is told = absurd told
lacks bytes head es old new statuses.OtherKind body is told = absurd told
lacks bytes head es old new statuses.Open body is told = absurd told
lacks bytes head es old new statuses.BadField body is told = absurd told
lacks bytes head es old new statuses.Absent body is told = absurd told
lacks bytes head es old new (statuses.Map fault) body is told = absurd told
lacks bytes head es old new (statuses.Rows fault) body is told = absurd told
lacks bytes head es old new (statuses.Want fault) body is told = absurd told
lacks bytes head es old new statuses.TimeBack body is told = absurd told

all_fit : (es : List MapElement) → AllFit es → AllByRecursion FitsElement (map element_value es)
all_fit [] fit = tt
all_fit (e ∷ es) fit = (fit 0 (omega arith) e refl, all_fit es (λ k lt d at. fit (suc k) (omega (arith, lt)) d at))

-- how many bytes spell a head and elements
pub spelled_len : (head : MapHead) (es : List MapElement) (bytes : List ℕ) (made : List Element) → made ≡ map element_value es → Spells bytes (head_value head) made 0
    → length bytes ≡ 16 + 4 * length es
spelled_len head es bytes made same spelled =
    let count : length made ≡ length es = ap (λ (xs : List Element). length xs) same ∙ length-map es element_value in
    omega (arith, (spelling_len bytes (head_value head) made 0 spelled).0, count)

-- the bytes that elements of a body would be written as, and how many
pub would_be : (head : MapHead) (es : List MapElement) → FitsHead (head_value head) → AllFit es → length es ≤ 255 → AreElements (map element_value es)
    → (bytes : List ℕ) × IsWritten bytes (body_of head es) × (length bytes ≡ 16 + 4 * length es)
would_be head es fits fit few are =
    let spelled : Spells (layout (head_value head) (map element_value es) 0) (head_value head) (map element_value es) 0 =
    record { spelled = refl; count = omega (arith, length-map es element_value, few); head_fits = fits; elements_fit = all_fit es fit } in
    (layout (head_value head) (map element_value es) 0, (spelled, are), spelled_len head es _ _ refl spelled)
