use Rattle.std.proofs.Common.{◌≡◌, take}
use Rattle.modem.specs.Wants.{lasting}
use Rattle.modem.proofs.wants.first_over.Given as goal

-- those so far stay
abbrev pub invariant-loop-want : goal.invariant-loop-want
invariant-loop-want l = lasting l.leases l.ch l.clock (take l.want-index l.wants) ≡ take l.want-index l.wants
