use Rattle.std.proofs.Common.{◌≡◌, ◌++◌, drop, map}
use Rattle.upsched_draw.specs.Transmitted.{told}
use Rattle.upsched_draw.proofs.transmitted.all_told.Given as goal

-- those so far, and those of what is left, are all
abbrev pub invariant-loop-t : goal.invariant-loop-t
invariant-loop-t l = l.sent.items ++ map (told l.ids) (drop l.t-index l.transmissions) ≡ map (told l.ids) l.transmissions
