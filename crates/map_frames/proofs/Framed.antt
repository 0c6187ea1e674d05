-- What a frame's bytes are.
use Rattle.std.proofs.Common.{◌≡◌, ℕ, ◌+◌, List, ◌++◌, length, take, drop, refl, ap, ◌∙◌, arith, length-append}
use Rattle.std.proofs.lemmas.List.{take_at}
use Rattle.std.specs.Int.{w32, to_le_bytes}
use Rattle.map_frames.specs.Checks.{frame_check}
use Rattle.map_frames.specs.Frames.{header_bytes, message_of, framed, frame_of, body_begins}

behind_head : (body : List ℕ) → drop body_begins (frame_of body) ≡ body ++ to_le_bytes w32 (frame_check (message_of body))
unfolding framed
behind_head body = refl

pub body_in_frame : (body : List ℕ) → take (length body) (drop body_begins (frame_of body)) ≡ body
body_in_frame body = ap (λ (t : List ℕ). take (length body) t) (behind_head body) ∙ take_at body (to_le_bytes w32 (frame_check (message_of body))) (length body) refl

pub length-frame : (body : List ℕ) → length (frame_of body) ≡ 30 + length body
unfolding framed
length-frame body = omega (arith, length-append body (to_le_bytes w32 (frame_check (message_of body))))

-- a header and a message of a body, with their checks, are its frame
pub framed_whole : (header message bytes body : List ℕ) → bytes ≡ framed header message → header ≡ header_bytes (24 + length body) → message ≡ message_of body
    → (bytes ≡ frame_of body) × (take (length body) (drop body_begins bytes) ≡ body) × (length bytes ≡ 30 + length body)
framed_whole header message bytes body is h m =
    let whole : bytes ≡ frame_of body = is ∙ ap (λ (t : List ℕ). framed t message) h ∙ ap (λ (t : List ℕ). framed (header_bytes (24 + length body)) t) m in (
      whole,
      ap (λ (t : List ℕ). take (length body) (drop body_begins t)) whole ∙ body_in_frame body,
      ap (λ (t : List ℕ). length t) whole ∙ length-frame body,
    )
