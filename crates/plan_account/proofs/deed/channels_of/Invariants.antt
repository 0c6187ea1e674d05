use Rattle.std.proofs.Common.{◌≡◌, take}
use Rattle.plan_account.specs.Deeds.{channels_of}
use Rattle.plan_account.proofs.deed.channels_of.Given as goal

abbrev pub invariant-loop-deed : goal.invariant-loop-deed
invariant-loop-deed l = l.channels.items ≡ channels_of (take l.deed-index l.deeds)
