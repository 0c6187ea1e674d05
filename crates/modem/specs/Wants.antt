-- A modem's wants: at most one request of a SID, sent or not yet.
use Rattle.std.specs.Prelude.{◌≡◌, ◌≢◌, ℕ, ◌≤◌, Bool, true, false, ◌==◌, ◌&&◌, ◌||◌, not, nat_lt, if◌then◌else◌, List}
use Rattle.std.specs.Prelude.{map, find, Option, Some, None}
use Rattle.std.specs.List.{list_any, filter}
use Rattle.std.specs.Option.{option_map_or}
use Rattle.modem.specs.declared.known.Progress.{Progress}
use Rattle.modem.specs.declared.known.Progress.TheVariants.{Unsent, Sent}
use Rattle.modem.specs.declared.known.Want.{Want}
use Rattle.modem.specs.declared.types.WantFault.{WantFault}
use Rattle.modem.specs.declared.types.WantFault.TheVariants.{NotMine, Waiting, BadSize, OutOfMemory}
use Rattle.modem.specs.declared.known.OwnLease.{OwnLease}
use Rattle.modem.specs.State.{State, is_own_at, is_own_from, clock_of}

abbrev pub is_want : ℕ → ℕ → Want → Bool
is_want ch sid w = (w.channel == ch) && (w.sid == sid)

abbrev pub is_unsent : Progress → Bool
is_unsent (Unsent drawn) = true
is_unsent (Sent «at») = false

-- it is of the channel and unsent
abbrev pub is_unsent_on : ℕ → Want → Bool
is_unsent_on ch w = (w.channel == ch) && is_unsent w.progress

-- the unsent want of a SID
abbrev pub unsent_of : List Want → ℕ → ℕ → Option Want
unsent_of wants ch sid = find (λ w. is_want ch sid w && is_unsent w.progress) wants

-- the wants with this one in place of the one of its SID
abbrev pub with_want : Want → List Want → List Want
with_want row wants = map (λ w. if is_want row.channel row.sid w then row else w) wants

-- of the SIDs of a channel that have an unsent want, the least one's; None where none has
abbrev pub IsLeastUnsent : List Want → ℕ → Option Want → Type 0
IsLeastUnsent wants ch None = (sid : ℕ) → unsent_of wants ch sid ≡ None
IsLeastUnsent wants ch (Some w) = (unsent_of wants ch w.sid ≡ Some w) × ((sid : ℕ) → unsent_of wants ch sid ≢ None → w.sid ≤ sid)

-- it is unsent on the channel, and of a lesser SID than this one, if there is one
abbrev pub leads : ℕ → Option Want → Want → Bool
leads ch least w = is_unsent_on ch w && option_map_or (λ best. nat_lt w.sid best.sid) least true

-- the wants whose SIDs are the modem's at minislot m
abbrev pub own_wants : List OwnLease → ℕ → ℕ → List Want → List Want
own_wants leases ch m wants = filter (λ w. is_own_at leases ch w.sid m) wants

-- it is of another channel, or a lease of its SID ends at the channel's clock or later
abbrev pub is_lasting : List OwnLease → ℕ → ℕ → Want → Bool
is_lasting leases ch clock w = not (w.channel == ch) || is_own_from leases ch w.sid clock

-- the wants that stay when the channel's clock is this
abbrev pub lasting : List OwnLease → ℕ → ℕ → List Want → List Want
lasting leases ch clock wants = filter (is_lasting leases ch clock) wants

-- a request that is wanted anew
abbrev pub new_want : ℕ → ℕ → ℕ → Want
new_want ch sid n = record { channel = ch; sid = sid; n = n; tries = 0; progress = Unsent None }

-- a lease of the SID ends at the channel's clock or later
abbrev pub is_own_now : State → ℕ → ℕ → Bool
is_own_now v ch sid = is_own_from v.leases ch sid (clock_of v.channels ch)

-- why a request isn't taken: the first that applies
abbrev pub want_refusal : State → ℕ → ℕ → ℕ → Option WantFault
want_refusal v ch sid n =
    if not (is_own_now v ch sid) then Some NotMine
    else (if nat_lt n 1 || nat_lt 255 n then Some BadSize
    else (if list_any (is_want ch sid) v.wants then Some Waiting else None))

-- the number of a fault
abbrev pub number_of_fault : WantFault → ℕ
number_of_fault NotMine = 1
number_of_fault Waiting = 2
number_of_fault BadSize = 3
number_of_fault OutOfMemory = 4
