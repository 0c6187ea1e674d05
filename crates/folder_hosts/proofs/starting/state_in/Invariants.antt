use Rattle.std.proofs.Common.{take}
use Rattle.std.specs.Prelude.{Contains}
use Rattle.stored_hosts.specs.declared.names.HostFile.{HostFile}
use Rattle.folder_hosts.proofs.Looked.{IsNoState}
use Rattle.folder_hosts.proofs.starting.state_in.Given as goal

abbrev pub invariant-loop-file : goal.invariant-loop-file
invariant-loop-file l = (file : HostFile) → Contains (take l.file-index l.files) file → IsNoState file
