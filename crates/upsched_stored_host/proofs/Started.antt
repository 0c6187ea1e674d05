-- A host that starts so ran as one that starts as it does.
use Rattle.std.proofs.Common.{◌≡◌, sym, subst}
use Rattle.folder_hosts.specs.declared.databases.Databases.{Ghosts as Bases}
use Rattle.folder_hosts.specs.declared.opens.FolderOpens.{FolderOpens}
use Rattle.hosts.specs.declared.opens.Opens.{Ghosts}
use Rattle.kept_node.specs.declared.store.WriteStore.{Ghosts as Stores}
use Rattle.node.specs.declared.node.Node.{Ghosts as Nodes}
use Rattle.node_service.specs.declared.lines.Lines.{Ghosts as Inputs}
use Rattle.node_service.specs.declared.outbox.Outbox.{Ghosts as Outputs}
use Rattle.stored_hosts.specs.declared.folder.Folder.{Ghosts as Folders}
use Rattle.upsched_host.specs.declared.folder_words.HostStart.{HostStart}
use Rattle.upsched_stored_host.specs.Ends.{Told}
use Rattle.upsched_stored_host.specs.Folder.{RunsFolder}
use Rattle.upsched_stored_host.specs.declared.folder_run.HostFolder.{HostFolder}

pub starts_as : {F P D W N I Q : Type 0} {folders : Folders F P} {bases : Bases D W} {stores : Stores W} {g : Ghosts (FolderOpens F D) N} {h : Nodes N}
    {input : Inputs I} {output : Outputs Q} {given : HostFolder F D} (a b : HostStart) {told : Told N} {i : I} {o : Q} {i' : I} {o' : Q}
    → b ≡ a → RunsFolder folders bases stores g h input output given a told i o i' o' → RunsFolder folders bases stores g h input output given b told i o i' o'
starts_as {folders = folders} {bases = bases} {stores = stores} {g = g} {h = h} {input = input} {output = output} {given = given} a b {told = told} {i = i} {o = o} {i' = i'} {o' = o'} same it =
    subst (λ (s : HostStart). RunsFolder folders bases stores g h input output given s told i o i' o') (sym same) it
