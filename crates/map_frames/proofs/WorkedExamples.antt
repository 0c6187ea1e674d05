-- The published check values: of ITU-T X.25's check and of Ethernet's, both of the digits 1 to 9.
use Rattle.std.proofs.Common.{◌≡◌, ℕ, List, [], ◌∷◌, refl}
use Rattle.map_frames.specs.Polynomials.{plus, below, left_of, remainder, bits, number_of}
use Rattle.map_frames.specs.Checks.{check_by, header_generator, header_check, frame_generator, frame_check}

abbrev digits : List ℕ
digits = 0x31 ∷ 0x32 ∷ 0x33 ∷ 0x34 ∷ 0x35 ∷ 0x36 ∷ 0x37 ∷ 0x38 ∷ 0x39 ∷ []

header_check_value : header_check digits ≡ 0x906E
unfolding check_by header_generator plus below left_of remainder bits number_of
header_check_value = refl

frame_check_value : frame_check digits ≡ 0xCBF43926
unfolding check_by frame_generator plus below left_of remainder bits number_of
frame_check_value = refl
