-- What is so of files of each state.
use Rattle.std.specs.Prelude.{◌⊎◌, ℕ}
use Rattle.ballots.specs.declared.members.Members.{Members}
use Rattle.log_ties.specs.Ties.{RefusesTie}
use Rattle.sqlite_disk.specs.Disk.{MoreFaults}
use Rattle.sqlite_wal.specs.Recovery.{Image}
use Rattle.sqlite_wal.specs.declared.error.Error.TheVariants.{Full}
use Rattle.stored_nodes.specs.Looks.{IsOthers, IsToldIn}
use Rattle.stored_nodes.specs.Lost.{ShowsLoss}
use Rattle.stored_nodes.specs.declared.states.FilesState.{FilesState}
use Rattle.stored_nodes.specs.declared.states.FilesState.TheVariants.{OtherNode, Lost, Unusable}

-- what is so of the bytes of this node's files of each state, and of how many calls of the disk had failed and have
abbrev pub IsStateOf : Image → ℕ → ℕ → ℕ → FilesState → Type 0
IsStateOf image id old new (Lost loss) = ShowsLoss image loss
IsStateOf image id old new (Unusable why) = MoreFaults old new ⊎ RefusesTie image.log Full
IsStateOf image id old new (OtherNode other) = IsOthers image id other
IsStateOf image id old new state = (members : Members) × IsToldIn image (record { node = id; members = members }) state
