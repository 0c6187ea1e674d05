-- The check sequences of a frame: complemented remainders of its bits by a generator (CM-SP-MULPIv3.1, MAC frames).
use Rattle.std.specs.Prelude.{ℕ, Bool, not, List, [], ◌∷◌, map}
use Rattle.map_frames.specs.Polynomials.{below, remainder, number_of, all_bits}

-- the number of a check sequence by such a generator: its bits in the order in which they are sent, from the lowest on
unfoldable pub check_by : List Bool → List ℕ → ℕ
check_by generator bytes = number_of (map not (remainder generator (all_bits bytes)))

-- of a header, as in ITU-T X.25: x^16 + x^12 + x^5 + 1
unfoldable pub header_generator : List Bool
header_generator = below 16 (12 ∷ 5 ∷ 0 ∷ [])

abbrev pub header_check : List ℕ → ℕ
header_check bytes = check_by header_generator bytes

-- of a frame, as in Ethernet: x^32 and these powers
unfoldable pub frame_generator : List Bool
frame_generator = below 32 (26 ∷ 23 ∷ 22 ∷ 16 ∷ 12 ∷ 11 ∷ 10 ∷ 8 ∷ 7 ∷ 5 ∷ 4 ∷ 2 ∷ 1 ∷ 0 ∷ [])

abbrev pub frame_check : List ℕ → ℕ
frame_check bytes = check_by frame_generator bytes
