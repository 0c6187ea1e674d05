use Rattle.std.proofs.Common.{ℕ, ◌-◌, ◌^◌, ◌<◌, ◌≤◌, max}
use Rattle.modem.specs.KeptIntervals.{AreWindows}
use Rattle.modem.specs.Idle.{IsIdle}
use Rattle.modem.proofs.modem.Modem.next_event.Given as goal

-- where the look is, and nothing comes in the minislots so far
abbrev pub invariant-loop-at : goal.invariant-loop-at
invariant-loop-at l =
    (max l.channel.clock l.fn.from ≤ l.«at»)
    × AreWindows l.channel.id l.«at» l.self l.near
    × ((m : ℕ) → max l.channel.clock l.fn.from ≤ m → m < l.«at» → m < 2 ^ 63 → IsIdle l.self l.channel.id m)

abbrev pub decreases-loop-at : goal.decreases-loop-at
decreases-loop-at l = 2 ^ 64 - l.«at»
