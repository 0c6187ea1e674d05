-- A MAP body given in hexadecimal.
use Rattle.std.specs.Prelude.{◌≡◌, ℕ, List, Ok}
use Rattle.hex.specs.Hex.{decode_of}
use Rattle.map_body.specs.Body.{Body}
use Rattle.map_body.specs.Layout.{IsBody}

-- the digits give bytes that are this body
abbrev pub IsHexBody : List ℕ → Body → Type 0
IsHexBody digits map = (bytes : List ℕ) × (decode_of digits ≡ Ok bytes) × IsBody bytes map
