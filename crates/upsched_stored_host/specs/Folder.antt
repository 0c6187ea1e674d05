-- A host over a folder: how it begins, and what it does.
use Rattle.std.specs.Prelude.{◌≡◌, ◌⊎◌, ℕ, List, Ok, Err}
use Rattle.acceptor.specs.Content.{Content}
use Rattle.ballots.specs.Members.{member_count}
use Rattle.ballots.specs.declared.members.Members.{Members}
use Rattle.folder_hosts.specs.Databases.{IsBegun}
use Rattle.folder_hosts.specs.Folders.{LetsGo}
use Rattle.folder_hosts.specs.Starting.{BeginsFolder, HasNoState, IsNoBeginning, IsNoNew, IsNoResuming, IsNoWaiting, Resumes, which_of}
use Rattle.folder_hosts.specs.declared.databases.Databases.{Ghosts as Bases}
use Rattle.folder_hosts.specs.declared.fault.HostStartFault.{HostStartFault}
use Rattle.folder_hosts.specs.declared.opens.FolderOpens.{FolderOpens}
use Rattle.host_service.specs.Replying.{host_of}
use Rattle.host_service.specs.Texts.{begins_text}
use Rattle.host_service.specs.declared.reply.Beginning.TheVariants.{Fresh, Waits}
use Rattle.host_service.specs.declared.service.HostServer.{HostServer}
use Rattle.hosts.specs.Hosts.{AreMembers, IsHonest, StandsAs, begins_of, member_of, places_of}
use Rattle.hosts.specs.Keeping.{HaveKept, IsDownNode}
use Rattle.hosts.specs.New.{ArePlaces}
use Rattle.hosts.specs.Views.{AreBegun, opening}
use Rattle.hosts.specs.declared.host.Host.{Host}
use Rattle.hosts.specs.declared.opens.Opens.{Ghosts}
use Rattle.kept_node.specs.declared.store.WriteStore.{Ghosts as Stores}
use Rattle.node.specs.declared.node.Node.{Ghosts as Nodes}
use Rattle.node_service.specs.declared.batches.BatchedEnd.{BatchedEnd}
use Rattle.node_service.specs.declared.batches.BatchedEnd.TheVariants as ends
use Rattle.node_service.specs.declared.lines.Lines.{Ghosts as Inputs}
use Rattle.node_service.specs.declared.outbox.Outbox.{Ghosts as Outputs}
use Rattle.stored_hosts.specs.Surveying.{Surveys}
use Rattle.stored_hosts.specs.declared.finding.Found.TheVariants.{Whole}
use Rattle.stored_hosts.specs.declared.finding.Start.{Start}
use Rattle.stored_hosts.specs.declared.folder.Folder.{Ghosts as Folders}
use Rattle.stored_hosts.specs.declared.names.HostFile.{HostFile}
use Rattle.upsched_host.specs.declared.folder_words.HostStart.{HostStart}
use Rattle.upsched_host.specs.declared.folder_words.HostStart.TheVariants.{Join, Left, New}
use Rattle.upsched_node.specs.Ends.{write_fault}
use Rattle.upsched_node.specs.First.{TellsFirst, Untouched}
use Rattle.upsched_stored_host.specs.Ends.{TellsEnd, Told}
use Rattle.upsched_stored_host.specs.Serving.{HasServed, TellsAndServes, WaitsAndServes}
use Rattle.upsched_stored_host.specs.declared.folder_run.HostFolder.{HostFolder}
use Rattle.upsched_stored_host.specs.declared.stopped.Stopped.TheVariants.{Ended, Unstarted}

module _ {F P D W : Type 0} (folders : Folders F P) (bases : Bases D W) (stores : Stores W) (given : HostFolder F D) where
  -- over these contents the nodes of epochs may begin
  abbrev pub MayBegin : ℕ → Content → Type 0
  MayBegin e c = IsBegun stores bases.begins given.databases e c

  -- a folder was made a new host's
  abbrev pub IsMadeNew : Type 0
  IsMadeNew = (f : F) × (d : D)
      × BeginsFolder folders.lists folders.does bases.opens bases.tells given.places (bases.member given.databases) given.folder given.databases f d

  -- why no host starts so
  abbrev pub IsNoStart : HostStart → HostStartFault → Type 0
  IsNoStart New fault =
      IsNoNew (ArePlaces given.places) (IsNoBeginning folders.lists folders.unread bases.tells given.folder given.databases) IsMadeNew fault
  IsNoStart Left fault = IsNoResuming folders.lists folders.holds folders.unread (which_of (bases.member given.databases) given.places) given.folder fault
  IsNoStart Join fault = IsNoWaiting folders.lists folders.unread given.folder fault

  -- what opens the nodes of one that waits: the folder has no state
  pub record WaitsIn (opens : FolderOpens F D) : Type 0 where
    pub folder : opens.folder ≡ given.folder
    pub databases : opens.databases ≡ given.databases
    pub fresh : (files : List HostFile) × folders.lists given.folder files × HasNoState files

  module _ {N : Type 0} {g : Ghosts (FolderOpens F D) N} {h : Nodes N} where
    -- a host is of this folder and these databases, has kept all that it did, and its nodes begin over nothing else
    pub record IsOfFolder (host : Host (FolderOpens F D) N g h) : Type 0 where
      pub member : member_of host ≡ bases.member given.databases
      pub places : places_of host ≡ given.places
      pub members : AreMembers host
      pub honest : IsHonest host
      pub kept : HaveKept host
      pub begins : (e : ℕ) (c : Content) → begins_of host e c → MayBegin e c

    -- it is new: the folder was made one's, and it stands where one begins
    pub record IsNewHost (host : Host (FolderOpens F D) N g h) : Type 0 where
      pub of : IsOfFolder host
      pub possible : ArePlaces given.places
      pub made : IsMadeNew
      pub stands : (contents : ℕ → Content) × AreBegun MayBegin 1 2 contents × StandsAs host (opening contents)

    -- it goes on: at the state that counts in the folder, of which what no start needs was let go
    pub record IsLeftHost (host : Host (FolderOpens F D) N g h) : Type 0 where
      pub of : IsOfFolder host
      pub start : Start
      pub found : Surveys folders.holds folders.unread folders.lists (which_of (bases.member given.databases) given.places) given.folder (Ok (Whole start))
      pub gone : (f : F) × LetsGo folders.lists folders.unread folders.does start.head.epoch given.folder f
      pub resumes : Resumes MayBegin given.places start host

module _ {F P D W N I Q : Type 0} (folders : Folders F P) (bases : Bases D W) (stores : Stores W) (g : Ghosts (FolderOpens F D) N) (h : Nodes N)
    (input : Inputs I) (output : Outputs Q) (given : HostFolder F D) where
  -- a host of this folder, member id of so many, started so, told how it begins, and served, and how that ended is told;
  -- or it couldn't tell how it begins
  abbrev pub Serves : ℕ → Members → HostStart → Told N → I → Q → I → Q → Type 0
  Serves id members New told i o i' o' =
      (old new : HostServer (FolderOpens F D) N g h) × (end : BatchedEnd) × IsNewHost folders bases stores given (host_of old)
      × TellsFirst output (begins_text id members given.places Fresh) (λ why. end ≡ ends.Unwritten why) i o i' o'
      (λ sent. HasServed input output old end new i sent i' o')
      × TellsEnd (IsDownNode (host_of new)) end told
  Serves id members Left told i o i' o' =
      (old new : HostServer (FolderOpens F D) N g h) × (end : BatchedEnd) × IsLeftHost folders bases stores given (host_of old)
      × TellsAndServes input output id members given.places old end new i o i' o' × TellsEnd (IsDownNode (host_of new)) end told
  Serves id members Join told i o i' o' =
      (opens : FolderOpens F D) × WaitsIn folders bases stores given opens
      × TellsFirst output (begins_text id members given.places Waits) (λ why. told ≡ Err (Ended (write_fault why))) i o i' o'
      (λ sent. WaitsAndServes g h input output opens given.places told i sent i' o')

  -- so it ran: none started, for a fault that is told, and nothing was read or written; or it served
  pub record RunsFolder (start : HostStart) (told : Told N) (i : I) (o : Q) (i' : I) (o' : Q) : Type 0 where
    pub id : ℕ
    pub members : Members
    pub of : bases.member given.databases ≡ (id, member_count members)
    pub runs : ((fault : HostStartFault) × IsNoStart folders bases stores given start fault × Untouched i o i' o' × (told ≡ Err (Unstarted fault)))
        ⊎ Serves id members start told i o i' o'
