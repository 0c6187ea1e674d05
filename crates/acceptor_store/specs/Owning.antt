-- Records that are opened for an owner.
use Rattle.std.specs.Prelude.{◌≡◌, ◌≢◌, ◌⊎◌, ℕ, List, [], ◌∷◌, Bool, true, false, Option, Some, None, Result, Ok, Err, IsTrue}
use Rattle.acceptor.specs.Content.{Content, no_content}
use Rattle.sqlite.specs.Store.{Ghosts}
use Rattle.sqlite.specs.Order.{Row}
use Rattle.sqlite.specs.Tree.{Trees}
use Rattle.sqlite.specs.Schema.{Schema}
use Rattle.sqlite.specs.Held.{Held, state}
use Rattle.sqlite.specs.State.{HasCleanDisk, State}
use Rattle.sqlite_trees.specs.View.{IsClean}
use Rattle.acceptor_store_parts.specs.declared.Version.{Version}
use Rattle.acceptor_store_parts.specs.declared.Version.TheVariants.{Third, Fourth}
use Rattle.acceptor_store_parts.specs.declared.owner.Owner.{Owner}
use Rattle.acceptor_store_parts.specs.Tables.{schema_of, blank_schema}
use Rattle.acceptor_store_parts.specs.Stored.{IsOfNode, fact_shown}
use Rattle.acceptor_store_parts.specs.Counts.{ShowsCount}
use Rattle.acceptor_store_parts.specs.Owned.{AreOwnedBy, AreTablesAt, AreTablesFor, AreUncounted, IsCount, IsOwner}
use Rattle.acceptor_store_parts.specs.Owned.{NamesOwner, OwnedAt, OwnedBefore, OwnedBy, owner_bytes}
use Rattle.acceptor_store_parts.specs.Rowids.{IsReread}
use Rattle.acceptor_store_parts.specs.Foreign.{HasFacts, IsBroken, IsForeignOwned, IsUnowned}
use Rattle.acceptor_store_parts.specs.Serves.{ServesAs, ServesAt}
use Rattle.acceptor_store.specs.declared.known.Numbers.{Numbers}
use Rattle.acceptor_store.specs.declared.OpenFault.{OpenFault}
use Rattle.acceptor_store.specs.declared.OpenFault.TheVariants.{Refused, Broken, OutOfMemory, Foreign}
use Rattle.acceptor_store.specs.declared.owned.OwnerFault.{OwnerFault}
use Rattle.acceptor_store.specs.declared.owned.OwnerFault.TheVariants.{Open, Blank, Unowned, OtherNode, OtherMembers}
use Rattle.acceptor_store.specs.Linked.{AreNumbersOf, FailsAnew, Had, HadIn, IsHonest, IsRefused, Linked, SeesForeign}
use Rattle.acceptor_store.specs.Linked.{ServesKnown}

-- the last commit holds this content, which a node wrote, in tables of this owner, of version 4 or 3
abbrev pub HadFor : {S : Type 0} → Ghosts S → Owner → Held S → Content → Type 0
HadFor g owner conn c = ((state g conn).now.schema ≡ schema_of Third) × AreOwnedBy owner (state g conn).committed.trees c × IsOfNode c

-- the same, or it has no tables at all, where the database may be new
abbrev pub HadAs : {S : Type 0} → Ghosts S → Owner → Bool → Held S → Content → Type 0
HadAs g owner is_new conn c = (((state g conn).now.schema ≡ blank_schema) × (is_new ≡ true) × (c ≡ no_content)) ⊎ HadFor g owner conn c

-- this owner's tables without content, made where there were none, or with the content that it had
abbrev pub IsMadeAs : {S : Type 0} → Ghosts S → Owner → Bool → Held S → Trees → Type 0
IsMadeAs g owner is_new conn db =
    (((state g conn).now.schema ≡ blank_schema) × (is_new ≡ true) × AreTablesFor (Some owner) db no_content)
    ⊎ ((c : Content) × HadFor g owner conn c × AreTablesFor (Some owner) db c)

-- a crash left it before too, or these are such tables
abbrev pub IsLeftAs : {S : Type 0} → Ghosts S → Owner → Bool → Held S → Trees → Type 0
IsLeftAs g owner is_new conn db = (state g conn).may_leave db ⊎ IsMadeAs g owner is_new conn db

-- the last commit holds this content, which a node wrote, in tables that have no owner, or in those of this one
abbrev pub HadBefore : {S : Type 0} → Ghosts S → Owner → Held S → Content → Type 0
HadBefore g owner conn c = ((HasFacts (state g conn).now.schema → ⊥) × (version : Version) × HadIn g version conn c) ⊎ HadFor g owner conn c

-- a crash left it before too, or these are tables of version 2, or of this owner, of the content that it had
abbrev pub IsLeftBefore : {S : Type 0} → Ghosts S → Owner → Held S → Trees → Type 0
IsLeftBefore g owner conn db = (state g conn).may_leave db ⊎ ((c : Content) × Had g conn c × (AreTablesFor None db c ⊎ AreTablesFor (Some owner) db c))

-- the last commit names this owner
abbrev pub Names : {S : Type 0} → Ghosts S → Held S → Owner → Type 0
Names g conn owner = ((state g conn).now.schema ≡ schema_of Third) × NamesOwner owner (state g conn).committed.trees

-- what each fault says of the database
abbrev pub IsDue : {S : Type 0} → Ghosts S → Owner → Bool → Held S → OwnerFault → Type 0
IsDue g owner is_new conn Blank = ((state g conn).now.schema ≡ blank_schema) × (is_new ≡ false)
IsDue g owner is_new conn Unowned = IsUnowned (state g conn).now.schema
IsDue g owner is_new conn (OtherNode other) = Names g conn other × (other.node ≢ owner.node)
IsDue g owner is_new conn (OtherMembers other) = Names g conn other × (other.node ≡ owner.node) × (other.members ≢ owner.members)
IsDue g owner is_new conn (Open Foreign) = IsForeignOwned (state g conn).now.schema (state g conn).committed.trees
IsDue g owner is_new conn (Open Refused) = Unit {0}
IsDue g owner is_new conn (Open Broken) = Unit {0}
IsDue g owner is_new conn (Open OutOfMemory) = Unit {0}

-- tables, indexes or views beside those of versions 3 and 4 or in their place, of which a node made none or all
abbrev pub HasFurtherAs : Schema → Type 0
HasFurtherAs s = (IsBroken s → ⊥) × (IsUnowned s → ⊥) × (s ≢ schema_of Third) × (s ≢ blank_schema)

-- the last commit holds content in this owner's tables of version 3, which are to get a count
abbrev pub IsToCount : {S : Type 0} → Ghosts S → Owner → Held S → Type 0
IsToCount g owner conn = ((state g conn).now.schema ≡ schema_of Third) × ((c : Content) × AreUncounted owner (state g conn).committed.trees c)

-- there are no tables yet, or those to which a count is to be given
abbrev pub IsToMakeFor : {S : Type 0} → Ghosts S → Owner → Held S → Type 0
IsToMakeFor g owner conn = ((state g conn).now.schema ≡ blank_schema) ⊎ IsToCount g owner conn

-- why it is Refused, and gives this store back: an open transaction, what stands beside the tables, tables that were to
-- be made, or a disk that failed
abbrev pub IsRefusedFor : {S : Type 0} → Ghosts S → Owner → Held S → S → Type 0
IsRefusedFor g owner conn store =
    IsTrue (state g conn).in_transaction ⊎ (HasFurtherAs (state g conn).now.schema ⊎ (IsToMakeFor g owner conn ⊎ FailsAnew g Third conn store))

-- the table of facts names this owner with the count that was read, or without one in version 3
abbrev pub NamesAt : Owner → Option ℕ → Trees → Type 0
NamesAt owner None db = OwnedBefore owner db
NamesAt owner (Some n) db = OwnedAt owner n db

-- and no owner as in the other version
abbrev pub NamesNone : Option ℕ → Trees → Type 0
NamesNone None db = (owner : Owner) → OwnedBy owner db → ⊥
NamesNone (Some n) db = (owner : Owner) → OwnedBefore owner db → ⊥

-- the version of tables with such a count
abbrev pub version_read : Option ℕ → Version
version_read None = Third
version_read (Some n) = Fourth

-- it serves this content for this owner at the count that was read, or in version 3
abbrev pub ServesRead : Owner → Option ℕ → State → Content → Type 0
ServesRead owner None s c = ServesAs Third s c × OwnedBefore owner s.now.trees
ServesRead owner (Some n) s c = ServesAt (Some owner) n s c

-- the rows of the table of facts show this owner, with this count or alone
abbrev pub ShowsAt : List Row → Owner → Option ℕ → Type 0
ShowsAt rows owner None = rows ≡ fact_shown (0, owner_bytes owner) ∷ []
ShowsAt rows owner (Some n) = ShowsCount rows owner n

-- a count that was read is one
abbrev pub IsCountRead : Option ℕ → Type 0
IsCountRead None = Unit {0}
IsCountRead (Some n) = IsCount n

-- the trees are this owner's tables at the count that was read, or those of version 3
abbrev pub AreReadAs : Owner → Option ℕ → Trees → Content → Type 0
AreReadAs owner None db c = AreUncounted owner db c
AreReadAs owner (Some n) db c = AreTablesAt (Some owner) n db c

-- the last commit holds this content, which a node wrote, in such tables
abbrev pub HadRead : {S : Type 0} → Ghosts S → Owner → Option ℕ → Held S → Content → Type 0
HadRead g owner count conn c = ((state g conn).now.schema ≡ schema_of Third) × AreReadAs owner count (state g conn).committed.trees c × IsOfNode c

-- it serves what its tables hold, which a node wrote as this owner and which has these numbers
abbrev pub ExaminesFor : {S : Type 0} → Ghosts S → Owner → Held S → Held S → Numbers → Type 0
ExaminesFor g owner old new numbers =
    IsReread Third (state g old)
    → (c : Content) × AreReadAs owner numbers.count (state g old).now.trees c × IsOfNode c
    × ServesRead owner numbers.count (state g new) c × AreNumbersOf numbers c

-- it serves for this owner what the older one had, in its version, which has these numbers
abbrev pub FindsFor : {S : Type 0} → Ghosts S → Owner → Held S → Held S → Numbers → Type 0
FindsFor g owner old new numbers = (c : Content) × HadRead g owner numbers.count old c × ServesRead owner numbers.count (state g new) c × AreNumbersOf numbers c

-- the same in version 4
abbrev pub CountsFor : {S : Type 0} → Ghosts S → Owner → Held S → Held S → Numbers → Type 0
CountsFor g owner old new numbers = (c : Content) × HadFor g owner old c × ServesKnown (Some owner) numbers.count (state g new) c × AreNumbersOf numbers c

-- the same of a database that may be new
abbrev pub PreparesFor : {S : Type 0} → Ghosts S → Owner → Bool → Held S → Held S → Numbers → Type 0
PreparesFor g owner is_new old new numbers =
    (c : Content) × HadAs g owner is_new old c × ServesKnown (Some owner) numbers.count (state g new) c × AreNumbersOf numbers c

-- what each fault says of a database that is to be adopted
abbrev pub IsDueBefore : {S : Type 0} → Ghosts S → Owner → Held S → OwnerFault → Type 0
IsDueBefore g owner conn Blank = (state g conn).now.schema ≡ blank_schema
IsDueBefore g owner conn Unowned = ⊥
IsDueBefore g owner conn (OtherNode other) = IsDue g owner false conn (OtherNode other)
IsDueBefore g owner conn (OtherMembers other) = IsDue g owner false conn (OtherMembers other)
IsDueBefore g owner conn (Open Foreign) =
    IsForeignOwned (state g conn).now.schema (state g conn).committed.trees ⊎ ((HasFacts (state g conn).now.schema → ⊥) × SeesForeign g conn)
IsDueBefore g owner conn (Open Refused) = Unit {0}
IsDueBefore g owner conn (Open Broken) = Unit {0}
IsDueBefore g owner conn (Open OutOfMemory) = Unit {0}

-- it serves for this owner what the older one had, without an owner or for this one, which has these numbers
abbrev pub AdoptsFor : {S : Type 0} → Ghosts S → Owner → Held S → Held S → Numbers → Type 0
AdoptsFor g owner old new numbers = (c : Content) × HadBefore g owner old c × ServesKnown (Some owner) numbers.count (state g new) c × AreNumbersOf numbers c

-- another owner than the one that is wanted is told, by what it differs in
abbrev pub IsToldOther : Owner → Owner → OwnerFault → Type 0
IsToldOther wanted found (OtherNode other) = (other ≡ found) × (found.node ≢ wanted.node)
IsToldOther wanted found (OtherMembers other) = (other ≡ found) × (found.node ≡ wanted.node) × (found.members ≢ wanted.members)
IsToldOther wanted found Blank = ⊥
IsToldOther wanted found Unowned = ⊥
IsToldOther wanted found (Open fault) = ⊥

-- the last commit holds content that a node wrote, in tables of this owner, who is another than the one that is wanted
abbrev pub IsOthers : {S : Type 0} → Ghosts S → Owner → Held S → Owner → Type 0
IsOthers g wanted conn other =
    ((state g conn).in_transaction ≡ false) × (other ≢ wanted) × IsOwner other × ((c : Content) × HadFor g other conn c)

-- tables couldn't be read: for want of memory, by a store that broke, or by a disk that failed or refused
abbrev pub FailsToRead : {S : Type 0} → Ghosts S → Held S → OwnerFault × S → Type 0
FailsToRead g conn told =
    (told.0 ≡ Open OutOfMemory) ⊎ ((told.0 ≡ Open Broken) ⊎ ((told.0 ≡ Open Refused) × ((version : Version) × FailsAnew g version conn told.1)))

-- what is answered of such a database: it isn't opened, and it is told whose it is where it could be read
abbrev pub TellsOther : {S : Type 0} → Ghosts S → Owner → Held S → Owner → Result (Linked S) (OwnerFault × S) → Type 0
TellsOther g wanted conn other (Ok r) = ¬ IsHonest g r
TellsOther g wanted conn other (Err told) = IsClean (g.view told.1) → IsToldOther wanted other told.0 ⊎ FailsToRead g conn told

-- the store that a connection had, of which a crash leaves nothing else
abbrev pub GivesBack : {S : Type 0} → Ghosts S → Held S → S → Type 0
GivesBack g conn store = IsClean (g.view store) → HasCleanDisk (state g conn) × ((db : Trees) → g.recovers store db → (state g conn).may_leave db)

-- what is answered to a read of tables that have an owner: a fault of the read as that, the tables where they are those
-- of the owner that is wanted, and else whose they are
abbrev pub Claims : {S : Type 0} → Ghosts S → Owner → Result (Held S × Owner × Numbers) (OpenFault × S) → Result (Held S × Numbers) (OwnerFault × S) → Type 0
Claims g wanted (Ok read) (Ok it) = (read.1 ≡ wanted) × (it.0 ≡ read.0) × (it.1 ≡ read.2)
Claims g wanted (Ok read) (Err told) = IsToldOther wanted read.1 told.0 × GivesBack g read.0 told.1
Claims g wanted (Err unread) (Ok it) = ⊥
Claims g wanted (Err unread) (Err told) = (told.0 ≡ Open unread.0) × (told.1 ≡ unread.1)

-- why a database isn't adopted that is Refused, and gives this store back: what an open of it would be Refused for,
-- without an owner or for this one, or tables without an owner that were to be made into this owner's
abbrev pub IsRefusedBefore : {S : Type 0} → Ghosts S → Owner → Held S → S → Type 0
IsRefusedBefore g owner conn store =
    IsRefused g conn store ⊎ (IsRefusedFor g owner conn store ⊎ ((HasFacts (state g conn).now.schema → ⊥) × ((c : Content) × Had g conn c)))
