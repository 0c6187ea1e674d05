-- What a line without a number asks of a host.
use Rattle.std.specs.Prelude.{◌≡◌, ◌≢◌, ◌⊎◌, ◌&&◌, ℕ, nat_le, not, Bool, true, List, [], ◌∷◌, ◌++◌, Ok, IsErr, codes}
use Rattle.hex.specs.Hex.{decode_of}
use Rattle.node_lines.specs.Lines.{Asks, BeginsOther, IsRefused, release_word}
use Rattle.node_lines.specs.declared.fault.LineFault.{LineFault}
use Rattle.node_lines.specs.declared.fault.LineFault.TheVariants as fault
use Rattle.node_lines.specs.declared.request.Request.TheVariants as request
use Rattle.host_service.specs.declared.asked.HostRequest.{HostRequest}
use Rattle.host_service.specs.declared.asked.HostRequest.TheVariants.{Release, State, Join, Again}

-- the words of a host alone, the first before digits
abbrev pub join_word : List ℕ
join_word = codes "join "

abbrev pub state_word : List ℕ
state_word = codes "state"

abbrev pub again_word : List ℕ
again_word = codes "again"

-- a line begins with no digit: it is done apart, once all before it is kept
abbrev pub is_apart : List ℕ → Bool
is_apart [] = true
is_apart (byte ∷ rest) = not (nat_le 48 byte && nat_le byte 57)

-- a line asks this: to release, as of a node; for its state; to go to a state, by its bytes' digits; or for what it tells
-- again
abbrev pub AsksHost : List ℕ → HostRequest → Type 0
AsksHost line (Release now) = Asks line (request.Release now)
AsksHost line State = line ≡ state_word
AsksHost line (Join bytes) = (digits : List ℕ) × (line ≡ join_word ++ digits) × (decode_of digits ≡ Ok bytes)
AsksHost line Again = line ≡ again_word

-- none of the lines that a host reads without a number
pub record IsNoHostLine (line : List ℕ) : Type 0 where
  pub release : BeginsOther release_word line
  pub join : BeginsOther join_word line
  pub state : line ≢ state_word
  pub again : line ≢ again_word

-- why a line asks no host: it is no such line; its time is none, as of a node; or what is behind `join` is no digits
abbrev pub AsksNoHost : List ℕ → LineFault → Type 0
AsksNoHost line why =
    ((why ≡ fault.NoLine) × IsNoHostLine line)
    ⊎ (((digits : List ℕ) × (line ≡ release_word ++ digits) × IsRefused line why)
    ⊎ ((why ≡ fault.NoHex) × (digits : List ℕ) × (line ≡ join_word ++ digits) × IsErr (decode_of digits)))
