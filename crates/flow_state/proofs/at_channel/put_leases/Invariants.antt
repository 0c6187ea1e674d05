use Rattle.std.proofs.Common.{◌≡◌, take}
use Rattle.flow_state.proofs.at_channel.put_leases.Given as goal

abbrev pub invariant-loop-lease : goal.invariant-loop-lease
invariant-loop-lease l = l.table ≡ record l.fn.table { leases = take l.lease-index l.leases }
