-- A capture file of frames (libpcap, version 2.4), low bytes first.
use Rattle.std.specs.Prelude.{ℕ, ◌+◌, ◌%◌, ◌^◌, List, [], ◌∷◌, ◌++◌, length}
use Rattle.std.specs.Int.{w32, to_le_bytes}
use Rattle.map_frames.specs.Frames.{frame_of}

-- the head of the file: magic number, version, two fields that are 0, the longest packet, link type DOCSIS
abbrev pub file_head : List ℕ
file_head =
    0xD4 ∷ 0xC3 ∷ 0xB2 ∷ 0xA1 ∷ 0x02 ∷ 0x00 ∷ 0x04 ∷ 0x00 ∷ 0x00 ∷ 0x00 ∷ 0x00 ∷ 0x00
    ∷ 0x00 ∷ 0x00 ∷ 0x00 ∷ 0x00 ∷ 0xFF ∷ 0xFF ∷ 0x00 ∷ 0x00 ∷ 0x8F ∷ 0x00 ∷ 0x00 ∷ 0x00 ∷ []

-- a frame in the file: its time in seconds and microseconds, how long it is, twice, and its bytes
unfoldable pub record_of : ℕ → List ℕ → List ℕ
record_of seconds frame =
    to_le_bytes w32 seconds ++ (0 ∷ 0 ∷ 0 ∷ 0 ∷ []) ++ to_le_bytes w32 (length frame) ++ to_le_bytes w32 (length frame) ++ frame

-- the frames of bodies one after another: the first one's time is this many seconds, of which 32 bits are kept, and
-- each next one's a second later
abbrev pub records_from : ℕ → List (List ℕ) → List ℕ
records_from seconds [] = []
records_from seconds (body ∷ bodies) = record_of (seconds % 2 ^ 32) (frame_of body) ++ records_from (seconds + 1) bodies

-- the capture of bodies
abbrev pub capture_of : List (List ℕ) → List ℕ
capture_of bodies = file_head ++ records_from 0 bodies
