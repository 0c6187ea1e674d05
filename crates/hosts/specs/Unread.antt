-- Tables that can't be read.
use Rattle.proposer.specs.declared.fault.NodeFault.TheVariants as nodes
use Rattle.row_bytes.specs.declared.fault.RowsFault.{RowsFault}
use Rattle.row_bytes.specs.declared.fault.RowsFault.TheVariants.{OutOfMemory}
use Rattle.hosts.specs.declared.fault.JoinFault.{JoinFault}
use Rattle.hosts.specs.declared.fault.JoinFault.TheVariants.{NoState, Node}

-- want of memory is told as such, and any other fault as no state
abbrev pub unread : RowsFault → JoinFault
unread OutOfMemory = Node nodes.OutOfMemory
unread other = NoState
