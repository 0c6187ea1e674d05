-- A host that words name ran as each other that they name.
use Rattle.std.proofs.Common.{◌≡◌, subst}
use Rattle.folder_hosts.specs.declared.databases.Databases.{Ghosts as Bases}
use Rattle.folder_hosts.specs.declared.opens.FolderOpens.{FolderOpens}
use Rattle.hosts.specs.declared.opens.Opens.{Ghosts}
use Rattle.kept_node.specs.declared.store.WriteStore.{Ghosts as Stores}
use Rattle.node.specs.declared.node.Node.{Ghosts as Nodes}
use Rattle.node_service.specs.declared.lines.Lines.{Ghosts as Inputs}
use Rattle.node_service.specs.declared.outbox.Outbox.{Ghosts as Outputs}
use Rattle.stored_hosts.specs.declared.folder.Folder.{Ghosts as Folders}
use Rattle.upsched_host.specs.Named.{Who}
use Rattle.upsched_host.specs.declared.folder_words.HostStart.{HostStart}
use Rattle.upsched_store.specs.declared.crash.CrashCause.{CrashCause}
use Rattle.upsched_stored_host.specs.Ends.{Told}
use Rattle.upsched_stored_host.specs.Running.{RunsAt}

pub runs_as : {F P D W N I Q : Type 0} {folders : Folders F P} {bases : Bases D W} {stores : Stores W} {g : Ghosts (FolderOpens F D) N} {h : Nodes N}
    {input : Inputs I} {output : Outputs Q} {Tells : N → CrashCause → Type 0} (a b : Who) {start : HostStart} {told : Told CrashCause} {i : I} {o : Q} {i' : I} {o' : Q}
    → a ≡ b → RunsAt folders bases stores g h input output Tells a start told i o i' o' → RunsAt folders bases stores g h input output Tells b start told i o i' o'
runs_as {folders = folders} {bases = bases} {stores = stores} {g = g} {h = h} {input = input} {output = output} {Tells = Tells} a b {start = start} {told = told} {i = i} {o = o} {i' = i'} {o' = o'} same it =
    subst (λ (w : Who). RunsAt folders bases stores g h input output Tells w start told i o i' o') same it
