-- Maps that are answered and not taken.
use Rattle.std.specs.Prelude.{◌≡◌, ℕ, ◌≤◌, max, Some}
use Rattle.map_body.specs.declared.head.Head.{Head}
use Rattle.modem.specs.declared.known.Channel.{Channel}
use Rattle.modem.specs.declared.types.Heard.{Heard}
use Rattle.modem.specs.declared.types.Heard.TheVariants.{Taken, NotMine, OtherUcd, Past, Unreadable}
use Rattle.modem.specs.State.{State, channel_of}
use Rattle.modem.specs.Hears.{Passes}
use Rattle.modem.specs.LetsGo.{HasNoOld}

-- the channel is the head's, and known by its UCD Count
abbrev pub IsKnownTo : State → Head → Channel → Type 0
IsKnownTo old head c = (channel_of old.channels head.channel ≡ Some c) × (c.ucd ≡ head.ucd)

-- a map of this head that stops there is of no known channel and UCD Count, or has ended and moves its channel's clock
abbrev pub IsDeclined : State → Head → ℕ → ℕ → Heard → State → Type 0
IsDeclined old head near stop OtherUcd new = ((c : Channel) → channel_of old.channels head.channel ≡ Some c → c.ucd ≡ head.ucd → ⊥) × (new ≡ old)
IsDeclined old head near stop Past new = (c : Channel) × IsKnownTo old head c × (stop ≤ max c.clock near) × Passes old c near new × HasNoOld new head.channel
IsDeclined old head near stop Taken new = ⊥
IsDeclined old head near stop NotMine new = ⊥
IsDeclined old head near stop Unreadable new = ⊥
