use Rattle.std.proofs.Common.{◌≡◌, ◌≤◌, take}
use Rattle.plan_account.specs.Windows.{grants_past}
use Rattle.plan_account.proofs.windows.Windows.grants_past.Given as goal

abbrev pub invariant-loop-at : goal.invariant-loop-at
invariant-loop-at l = (l.count ≡ grants_past l.self l.end (take l.at-index l.starts)) × (l.count ≤ l.at-index)
