-- Hosts that begin, and nodes that begin over records that hold nothing.
use Rattle.std.specs.Prelude.{ℕ, ◌≤◌}
use Rattle.ballots.specs.Members.{member_count}
use Rattle.proposer.specs.declared.fault.NodeFault.{NodeFault}
use Rattle.hosts.specs.declared.fault.HostFault.{HostFault}
use Rattle.hosts.specs.declared.fault.HostFault.TheVariants.{Places, Node}
use Rattle.hosts.specs.declared.host.TheConstants.{MOST_EPOCH_PLACES}
use Rattle.hosts.specs.declared.opens.NewNodes.{NewNodes}

-- the number of its nodes, and of how many each is one
abbrev pub new_member : {N : Type 0} → NewNodes N → ℕ × ℕ
new_member opens = (opens.id, member_count opens.members)

-- an epoch may have so many places that count
pub record ArePlaces (places : ℕ) : Type 0 where
  pub some : 1 ≤ places
  pub few : places ≤ MOST_EPOCH_PLACES

-- why there is no host of so many: an epoch can't have them, or a node couldn't be opened, as it may fail to
abbrev pub IsNoHost : (NodeFault → Type 0) → ℕ → HostFault → Type 0
IsNoHost may_fail places Places = ¬ ArePlaces places
IsNoHost may_fail places (Node fault) = ArePlaces places × may_fail fault
