-- What a modem has let go of once a clock has moved.
use Rattle.std.specs.Prelude.{◌≡◌, ℕ, ◌+◌, ◌*◌, ◌^◌, ◌≤◌, ◌==◌, ◌&&◌, nat_le, List, [], length, ◌⊎◌}
use Rattle.std.specs.List.{filter}
use Rattle.map_body.specs.Body.{Body}
use Rattle.map_body.specs.Layout.{IsBody}
use Rattle.grant_machine.specs.declared.output.Output.{Output}
use Rattle.grant_machine.specs.declared.output.Output.TheVariants.{Nothing, ChannelSet, Assigned, Map as MapOutput}
use Rattle.grant_machine.specs.declared.output.Output.TheVariants.{Refused}
use Rattle.modem.specs.declared.types.Heard.{Heard}
use Rattle.modem.specs.declared.types.Heard.TheVariants.{Taken, Past}
use Rattle.modem.specs.State.{State, Kept, clock_of}

-- a channel's intervals that began 2^14 minislots or more before its clock, and so have ended
abbrev pub old_intervals : ℕ → ℕ → List Kept → List Kept
old_intervals ch clock ks = filter (λ k. (k.channel == ch) && nat_le (k.start + 2 ^ 14) clock) ks

-- the modem keeps none of these
pub record HasNoOld (v : State) (ch : ℕ) : Type 0 where
  pub grants : old_intervals ch (clock_of v.channels ch) v.grants ≡ []
  pub open_to_all : old_intervals ch (clock_of v.channels ch) v.open_to_all ≡ []

-- were as many of each channel and one more, they'd be at most half of what the modem keeps
pub record HasFewOld (v : State) (ch : ℕ) : Type 0 where
  pub grants : 2 * (length v.channels + 1) * length (old_intervals ch (clock_of v.channels ch) v.grants) ≤ length v.grants
  pub open_to_all : 2 * (length v.channels + 1) * length (old_intervals ch (clock_of v.channels ch) v.open_to_all) ≤ length v.open_to_all

-- where the bytes of a map moved its channel's clock, the modem keeps no old interval of that channel
abbrev pub LetsGoAfter : List ℕ → Heard → State → Type 0
LetsGoAfter bytes answer new = (map : Body) → IsBody bytes map → (answer ≡ Taken) ⊎ (answer ≡ Past) → HasNoOld new map.head.channel

-- the same of an output, which may be a map
abbrev pub LetsGo : Output → Heard → State → Type 0
LetsGo (MapOutput _ _ _ bytes) answer new = LetsGoAfter bytes answer new
LetsGo Nothing answer new = Unit {0}
LetsGo (ChannelSet _ _) answer new = Unit {0}
LetsGo (Assigned _ _ _ _ _) answer new = Unit {0}
LetsGo (Refused _) answer new = Unit {0}
