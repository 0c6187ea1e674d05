-- A MAP in its frame, byte for byte (CM-SP-MULPIv3.1, MAC frames, MAC management messages and MAP message).
use Rattle.std.specs.Prelude.{ℕ, ◌+◌, List, [], ◌∷◌, ◌++◌, length}
use Rattle.std.specs.Int.{w16, w32, to_be_bytes, to_le_bytes}
use Rattle.map_frames.specs.Checks.{header_check, frame_check}

-- the MAC header up to its check: a MAC management message without extended header, and how many bytes follow the check
abbrev pub header_bytes : ℕ → List ℕ
header_bytes count = 0xC2 ∷ 0 ∷ to_be_bytes w16 count

-- to all cable modems, from a CMTS of an address for documentation
abbrev pub addresses : List ℕ
addresses = 0x01 ∷ 0xE0 ∷ 0x2F ∷ 0x00 ∷ 0x00 ∷ 0x01 ∷ 0x00 ∷ 0x00 ∷ 0x5E ∷ 0x00 ∷ 0x53 ∷ 0x01 ∷ []

-- LLC (DSAP, SSAP, control), version 1, type 3 (MAP), and a reserved byte
abbrev pub message_head : List ℕ
message_head = 0x00 ∷ 0x00 ∷ 0x03 ∷ 0x01 ∷ 0x03 ∷ 0x00 ∷ []

-- the message that a frame carries, up to its check
abbrev pub message_of : List ℕ → List ℕ
message_of body = addresses ++ to_be_bytes w16 (6 + length body) ++ message_head ++ body

-- a header and a message with the check behind each
unfoldable pub framed : List ℕ → List ℕ → List ℕ
framed header message = header ++ to_le_bytes w16 (header_check header) ++ message ++ to_le_bytes w32 (frame_check message)

-- the frame of a MAP with this body
abbrev pub frame_of : List ℕ → List ℕ
frame_of body = framed (header_bytes (24 + length body)) (message_of body)

-- where in a frame its body begins
abbrev pub body_begins : ℕ
body_begins = 26

-- how long a MAP body is at most: a head and 255 elements
abbrev pub longest_body : ℕ
longest_body = 1036
