use Rattle.std.proofs.Common.{ℕ, ◌+◌, ◌-◌, ◌≤◌, ◌⊎◌, ◌↔◌, length, take, map, vec_len, vec_capacity}
use Rattle.modem.specs.State.{HasAt}
use Rattle.modem.specs.KeptIntervals.{kept_interval, AreKept}
use Rattle.modem.proofs.kept.add_all.Given as goal

-- those so far are added, and there is room for the others
abbrev pub invariant-loop-interval : goal.invariant-loop-interval
invariant-loop-interval l =
    AreKept l.kept.items
    × (vec_len l.kept + (length l.intervals - l.interval-index) ≤ vec_capacity l.kept)
    × ((at_ch m sid iuc : ℕ) → HasAt (map kept_interval l.kept.items) at_ch m sid iuc ↔ (HasAt (map kept_interval l.initial.kept.items) at_ch m sid iuc ⊎ HasAt (map kept_interval (take l.interval-index l.intervals)) at_ch m sid iuc))
