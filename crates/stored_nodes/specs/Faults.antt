-- Which fault is told of one below.
use Rattle.std.specs.declared.io.ErrorKind.{ErrorKind}
use Rattle.std.specs.declared.io.ErrorKind.TheVariants as kind
use Rattle.acceptor_store.specs.declared.OpenFault.{OpenFault}
use Rattle.acceptor_store.specs.declared.OpenFault.TheVariants as opening
use Rattle.acceptor_store.specs.declared.owned.OwnerFault.TheVariants as owner
use Rattle.proposer.specs.declared.fault.NodeFault.TheVariants as node
use Rattle.stored_nodes.specs.declared.fault.StoreFault.{StoreFault}
use Rattle.stored_nodes.specs.declared.fault.StoreFault.TheVariants.{NotFresh, Unusable, OutOfMemory}
use Rattle.stored_nodes.specs.declared.start.FileFault.{FileFault}
use Rattle.stored_nodes.specs.declared.start.FileFault.TheVariants.{NoFolder, NotRegular, Denied, NoRoom, Failed}
use Rattle.stored_nodes.specs.declared.start.StartFault.{StartFault}
use Rattle.stored_nodes.specs.declared.start.StartFault.TheVariants as start

-- of an open: want of memory stays that, and else the files can't be used
abbrev pub stored_open : OpenFault → StoreFault
stored_open opening.OutOfMemory = OutOfMemory
stored_open other = Unusable

-- of a start: want of memory and records of a node that isn't fresh stay that, and else the files can't be used
abbrev pub stored_start : StartFault → StoreFault
stored_start start.NotFresh = NotFresh
stored_start start.OutOfMemory = OutOfMemory
stored_start (start.Unopened (owner.Open opening.OutOfMemory)) = OutOfMemory
stored_start (start.Unread node.OutOfMemory) = OutOfMemory
stored_start other = Unusable

-- of an error of a file, by its kind
abbrev pub file_fault : ErrorKind → FileFault
file_fault kind.NotFound = NoFolder
file_fault kind.NotADirectory = NoFolder
file_fault kind.Unsupported = NotRegular
file_fault kind.IsADirectory = NotRegular
file_fault kind.PermissionDenied = Denied
file_fault kind.ReadOnlyFilesystem = Denied
file_fault kind.StorageFull = NoRoom
file_fault kind.QuotaExceeded = NoRoom
file_fault _ = Failed
