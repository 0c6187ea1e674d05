-- A map that isn't taken is heard so.
use Rattle.std.proofs.Common.{◌≡◌, ℕ, List, ◌⊎◌, inl, inr}
use Rattle.map_body.specs.Body.{Body}
use Rattle.map_body.specs.declared.head.Head.{Head}
use Rattle.modem.specs.declared.types.Heard.{Heard}
use Rattle.modem.specs.declared.types.Heard.TheVariants.{Taken, NotMine, OtherUcd, Past, Unreadable}
use Rattle.modem.specs.State.{State}
use Rattle.map_body.specs.Heard.{Reads}
use Rattle.modem.specs.Hears.{HearsMap}
use Rattle.modem.specs.LetsGo.{HasNoOld}
use Rattle.modem.specs.Declined.{IsDeclined}

pub declined : (old new : State) (bytes : List ℕ) (near start stop : ℕ) (map : Body) (answer : Heard) → Reads bytes near map start stop → IsDeclined old map.head near stop answer new → HearsMap old bytes near answer new
declined old new bytes near start stop map OtherUcd reads (other, same) = (map, start, stop, reads, other, same)
declined old new bytes near start stop map Past reads (c, known, over, passes, none) = (map, start, stop, reads, c, known.0, known.1, over, passes)
declined old new bytes near start stop map Taken reads none = absurd none
declined old new bytes near start stop map NotMine reads none = absurd none
declined old new bytes near start stop map Unreadable reads none = absurd none

-- where the clock moved no old interval of the channel is kept
pub none_left : (old new : State) (head : Head) (near stop : ℕ) (answer : Heard) → IsDeclined old head near stop answer new → (answer ≡ Taken) ⊎ (answer ≡ Past) → HasNoOld new head.channel
none_left old new head near stop OtherUcd h moved = elim moved [ inl t ↦ (let e = t in cc) | inr p ↦ (let e = p in cc) ]
none_left old new head near stop Past (c, known, over, passes, none) moved = none
none_left old new head near stop Taken none moved = absurd none
none_left old new head near stop NotMine none moved = absurd none
none_left old new head near stop Unreadable none moved = absurd none
