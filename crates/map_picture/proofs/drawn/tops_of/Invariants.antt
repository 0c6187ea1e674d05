use Rattle.std.proofs.Common.{◌≡◌, ◌+◌, ◌*◌, ◌^◌, ◌≤◌, ◌++◌, drop}
use Rattle.map_picture.specs.Pictures.{first_top, tops_from}
use Rattle.map_picture.proofs.drawn.tops_of.Given as goal

-- the tops so far and those of the channels that are left are those of all
abbrev pub invariant-loop-ch : goal.invariant-loop-ch
invariant-loop-ch l =
    (l.tops.items ++ tops_from l.account l.y (drop l.ch-index l.channels) ≡ tops_from l.account first_top l.channels)
    × (l.y ≤ 72 + 2 ^ 34 * l.ch-index)
