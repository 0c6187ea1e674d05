-- What a modem does next on a channel, and which ticks may be left out.
use Rattle.std.specs.Prelude.{◌≡◌, ℕ, ◌+◌, ◌^◌, ◌<◌, ◌≤◌, true, false, max, ◌↔◌, List, [], ◌∷◌, Option, None, Some}
use Rattle.std.specs.Prelude.{Contains, zero, suc}
use Rattle.std.specs.List.{list_any}
use Rattle.map_body.specs.Iucs as iucs
use Rattle.modem.specs.declared.types.Sending.{Sending}
use Rattle.modem.specs.declared.types.Sending.TheVariants.{Unicast, Polled, Ranging}
use Rattle.modem.specs.declared.action.Action.{Action}
use Rattle.modem.specs.declared.action.Action.TheVariants.{Grant, Poll, Contention, LeaseEnd, Ranging as RangingAct}
use Rattle.modem.specs.declared.known.Want.{Want}
use Rattle.modem.specs.State.{State, KnownChannel, Kept, channel_clock, channel_of}
use Rattle.modem.specs.Wants.{is_want, lasting}
use Rattle.modem.specs.Ticks.{Ticks, TakesPart, backoff_number}

-- each tick at a minislot, whatever number is drawn, answers so and leaves such wants
abbrev pub EachTick : State → KnownChannel → ℕ → (ℕ → Option Sending → List Want → Type 0) → Type 0
EachTick v c slot Does =
    (random : ℕ) (sending : Option Sending) (new : State) → Ticks v c slot random sending new → Does random sending new.wants

-- a tick at a minislot sends nothing, and the wants stay: it changes nothing but the clock
abbrev pub IsQuiet : State → KnownChannel → ℕ → Type 0
IsQuiet v c slot = EachTick v c slot (λ random sending wants. (sending ≡ None) × (wants ≡ v.wants))

-- the interval of a grant, from its first minislot to its last
abbrev pub grant : ℕ → ℕ → ℕ → ℕ → ℕ → Kept
grant ch sid iuc first last = record { channel = ch; sid = sid; iuc = iuc; start = first; «end» = last + 1 }

-- a want takes part in a request minislot, and wants of leases that end after it go
abbrev pub IsPartOf : State → KnownChannel → ℕ → Want → ℕ → Option Sending → List Want → Type 0
IsPartOf v c slot w random sending wants =
    (after : List Want)
    × TakesPart v.wants slot sending after w (backoff_number c w random w.progress)
    × (wants ≡ lasting v.leases c.id (slot + 1) after)

-- what a tick at a minislot does: it uses a grant that is kept, sends a request at a poll, has a want take part where
-- all may request, lets a want go, or uses a ranging opportunity that is kept
abbrev pub Acts : State → KnownChannel → ℕ → Action → Type 0
Acts v c slot (Grant sid iuc first last) =
    (iucs.lets_transmit iuc ≡ true)
    × (first ≤ slot)
    × (slot ≤ last)
    × Contains v.grants (grant c.id sid iuc first last)
    × EachTick v c slot (λ random sending wants. sending ≡ Some (Unicast sid))
Acts v c slot (Poll sid n) = EachTick v c slot (λ random sending wants. sending ≡ Some (Polled sid n))
Acts v c slot (Contention sid n) =
    (w : Want)
    × (w.sid ≡ sid)
    × (w.n ≡ n)
    × EachTick v c slot (λ random sending wants. IsPartOf v c slot w random sending wants)
Acts v c slot (LeaseEnd sid) =
    (list_any (is_want c.id sid) v.wants ≡ true)
    × EachTick v c slot (λ random sending wants. (sending ≡ None) × (list_any (is_want c.id sid) wants ≡ false))
Acts v c slot (RangingAct sid first last) =
    (first ≤ slot)
    × (slot ≤ last)
    × Contains v.grants (grant c.id sid iucs.station_maintenance first last)
    × EachTick v c slot (λ random sending wants. sending ≡ Some (Ranging sid))

-- the minislots from the channel's clock and a given one on, and before another, are quiet
abbrev pub AreQuiet : State → KnownChannel → ℕ → ℕ → Type 0
AreQuiet v c from slot = (m : ℕ) → max (channel_clock c) from ≤ m → m < slot → IsQuiet v c m

-- the first of them that isn't quiet, and what its tick does
pub record IsNext (v : State) (c : KnownChannel) (from slot : ℕ) (action : Action) : Type 0 where
  pub from_on : max (channel_clock c) from ≤ slot
  pub below : slot < 2 ^ 63
  pub before : AreQuiet v c from slot
  pub acts : Acts v c slot action

-- the channel after a tick at a minislot
abbrev pub ticked : KnownChannel → ℕ → KnownChannel
ticked c slot = record c { clock = slot + 1 }

-- a tick at each of n minislots from m on, whatever numbers are drawn: what they answer, and how they leave the modem
-- and the channel
abbrev pub Runs : ℕ → State → KnownChannel → ℕ → List (Option Sending) → State → KnownChannel → Type 0
Runs zero v c m answers w d = (answers ≡ []) × (w ≡ v) × (d ≡ c)
Runs (suc n) v c m answers w d =
    (random : ℕ)
    × (sending : Option Sending)
    × (next : State)
    × (rest : List (Option Sending))
    × Ticks v c m random sending next
    × (answers ≡ sending ∷ rest)
    × Runs n next (ticked c m) (m + 1) rest w d

-- such ticks of a channel that the modem knows, at minislots that are quiet
pub record QuietRun (n : ℕ) (v : State) (c : KnownChannel) (ch m : ℕ) (answers : List (Option Sending)) (w : State) (d : KnownChannel) : Type 0 where
  pub known : channel_of v.channels ch ≡ Some c
  pub from_clock : channel_clock c ≤ m
  pub quiet : AreQuiet v c m (m + n)
  pub runs : Runs n v c m answers w d

-- from a minislot on, each tick of the one modem is a tick of the other, with the same answer and leaving the same
-- modem
abbrev pub TickAlike : State → KnownChannel → State → KnownChannel → ℕ → Type 0
TickAlike v c w d from =
    (slot random : ℕ) (sending : Option Sending) (new : State) → from ≤ slot → Ticks w d slot random sending new ↔ Ticks v c slot random sending new
