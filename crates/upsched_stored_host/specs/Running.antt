-- A host over a folder of the system.
use Rattle.std.specs.Prelude.{◌≡◌, ℕ}
use Rattle.ballots.specs.Members.{member_count}
use Rattle.folder_hosts.specs.declared.databases.Databases.{Ghosts as Bases}
use Rattle.folder_hosts.specs.declared.opens.FolderOpens.{FolderOpens}
use Rattle.hosts.specs.declared.opens.Opens.{Ghosts}
use Rattle.kept_node.specs.declared.store.WriteStore.{Ghosts as Stores}
use Rattle.node.specs.declared.node.Node.{Ghosts as Nodes}
use Rattle.node_service.specs.declared.lines.Lines.{Ghosts as Inputs}
use Rattle.node_service.specs.declared.outbox.Outbox.{Ghosts as Outputs}
use Rattle.stored_hosts.specs.declared.folder.Folder.{Ghosts as Folders}
use Rattle.upsched_host.specs.Named.{Who}
use Rattle.upsched_host.specs.declared.folder_words.HostStart.{HostStart}
use Rattle.upsched_store.specs.declared.crash.CrashCause.{CrashCause}
use Rattle.upsched_stored_host.specs.Ends.{TellsCauses, Told}
use Rattle.upsched_stored_host.specs.Folder.{RunsFolder}
use Rattle.upsched_stored_host.specs.declared.folder_run.HostFolder.{HostFolder}

-- The host that words name ran over a folder and its databases, which are of the member that they name, with as many
-- places. Where a node crashed, the cause is told as that node tells it.
pub record RunsAt {F P D W N I Q : Type 0} (folders : Folders F P) (bases : Bases D W) (stores : Stores W) (g : Ghosts (FolderOpens F D) N) (h : Nodes N)
    (input : Inputs I) (output : Outputs Q) (Tells : N → CrashCause → Type 0) (who : Who) (start : HostStart) (told : Told CrashCause)
    (i : I) (o : Q) (i' : I) (o' : Q) : Type 0 where
  pub given : HostFolder F D
  pub left : Told N
  pub of : bases.member given.databases ≡ (who.0, member_count who.1)
  pub places : given.places ≡ who.2
  pub runs : RunsFolder folders bases stores g h input output given start left i o i' o'
  pub tells : TellsCauses Tells left told
