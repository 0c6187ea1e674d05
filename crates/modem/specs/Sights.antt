-- What a modem found when it looked at a channel, and where that holds.
use Rattle.std.specs.Prelude.{◌≡◌, ℕ, ◌+◌, ◌*◌, ◌<◌, ◌≤◌, ◌↔◌, true, false, ◌==◌, ◌&&◌, nat_le, Bool, if◌then◌else◌}
use Rattle.std.specs.Prelude.{List, length, map, Option, None}
use Rattle.std.specs.List.{All}
use Rattle.map_body.specs.Iucs as iucs
use Rattle.map_body.specs.Sids.{everybody}
use Rattle.modem.specs.declared.kept.KeptInterval.{KeptInterval}
use Rattle.modem.specs.declared.sight.Sight.{Sight}
use Rattle.modem.specs.KeptIntervals.{kept_interval, AreKept, ArePast}
use Rattle.modem.specs.State.{Kept, HasAt}
use Rattle.modem.specs.Ticks.{Counts}
use Rattle.modem.specs.LetsGo.{old_intervals}

-- were as many of each of n channels and one more old by a clock, they'd be at most half of what is kept
abbrev pub FewOld : ℕ → ℕ → ℕ → List Kept → Type 0
FewOld n ch clock ks = 2 * (n + 1) * length (old_intervals ch clock ks) ≤ length ks

-- few of the channel's grants and of those open to all are old after a minislot
pub record IsFew (n ch m : ℕ) (grants opens : List Kept) : Type 0 where
  pub few_grants : FewOld n ch (m + 1) grants
  pub few_open : FewOld n ch (m + 1) opens

-- this counts at a minislot, it is open to all or isn't, and few intervals are old after it
pub record IsSeen (n : ℕ) (grants opens : List Kept) (ch m : ℕ) (counted : Option (ℕ × ℕ)) (is_open : Bool) : Type 0 where
  pub counts : Counts grants ch m counted
  pub shared : (is_open ≡ true) ↔ HasAt opens ch m everybody iucs.request
  pub few : IsFew n ch m grants opens

-- a sight is what there is at each minislot from its first one on and before its end, few intervals are old after those
-- before another end, and so many of the first are past at its first one
pub record Holds (n : ℕ) (grants opens : List KeptInterval) (s : Sight) : Type 0 where
  pub seen : (m : ℕ) → s.from ≤ m → m < s.until → IsSeen n (map kept_interval grants) (map kept_interval opens) s.channel m s.counted s.is_open
  pub few : (m : ℕ) → m < s.few_until → IsFew n s.channel m (map kept_interval grants) (map kept_interval opens)
  pub past_grants : ArePast s.channel s.from s.past_grants grants
  pub past_open : ArePast s.channel s.from s.past_open opens

-- each of them is
abbrev pub AreSights : ℕ → List KeptInterval → List KeptInterval → List Sight → Type 0
AreSights n grants opens ss = All (Holds n grants opens) ss

-- intervals that are kept, and sights of them
pub record AreSeen (n : ℕ) (own shared : List KeptInterval) (ss : List Sight) : Type 0 where
  pub grants : AreKept own
  pub opens : AreKept shared
  pub sights : AreSights n own shared ss

-- it is of the channel and its first minislot has come
abbrev pub has_begun : ℕ → ℕ → Sight → Bool
has_begun ch m s = (s.channel == ch) && nat_le s.from m

-- the sights with this one in place of those of its channel
abbrev pub with_sight : Sight → List Sight → List Sight
with_sight row ss = map (λ s. if s.channel == row.channel then row else s) ss

-- a sight of a channel that holds nowhere
abbrev pub nowhere : ℕ → Sight
nowhere ch = record { channel = ch; from = 0; until = 0; few_until = 0; past_grants = 0; past_open = 0; counted = None; is_open = false }

-- such a sight in place of one
abbrev pub forgotten : Sight → Sight
forgotten s = nowhere s.channel
