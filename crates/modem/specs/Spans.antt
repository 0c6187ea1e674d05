-- Up to where no want loses its last lease.
use Rattle.std.specs.Prelude.{◌≡◌, ℕ, ◌+◌, ◌<◌, ◌≤◌, true, ◌==◌, ◌&&◌, nat_le, nat_lt, Bool, if◌then◌else◌, List, map}
use Rattle.std.specs.List.{All}
use Rattle.modem.specs.declared.known.OwnLease.{OwnLease}
use Rattle.modem.specs.declared.known.Want.{Want}
use Rattle.modem.specs.declared.span.Span.{Span}
use Rattle.modem.specs.Wants.{is_lasting}

-- after each minislot from the span's first one on and before its end all wants stay
pub record Stay (leases : List OwnLease) (wants : List Want) (s : Span) : Type 0 where
  pub all : (m : ℕ) → s.from ≤ m → m < s.until → All (λ w. is_lasting leases s.channel (m + 1) w ≡ true) wants

-- that holds of each of them
abbrev pub AreSpans : List OwnLease → List Want → List Span → Type 0
AreSpans leases wants ss = All (Stay leases wants) ss

-- it is of the channel and holds at the minislot
abbrev pub is_within : ℕ → ℕ → Span → Bool
is_within ch m s = (s.channel == ch) && (nat_le s.from m && nat_lt m s.until)

-- the spans with this one in place of those of its channel
abbrev pub with_span : Span → List Span → List Span
with_span row ss = map (λ s. if s.channel == row.channel then row else s) ss

-- a span without minislots
abbrev pub forgotten : Span → Span
forgotten s = record s { until = 0 }
