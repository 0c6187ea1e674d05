-- Records over a connection.
use Rattle.std.specs.Prelude.{◌≡◌, ◌≢◌, ◌==◌, ℕ, max, map, List, [], ◌∷◌, if◌then◌else◌, Bool, true, false}
use Rattle.std.specs.Prelude.{Option, Some, None, ◌⊎◌, IsSome, IsTrue, refl}
use Rattle.std.specs.Coded.{Coded, code_by, coded×, coded_bool, coded_ℕ, coded_option}
use Rattle.ballots.specs.Ballots.{number_of}
use Rattle.ballots.specs.declared.letters.Cast.{Cast}
use Rattle.sqlite_disk.specs.Disk.{MoreFaults}
use Rattle.sqlite.specs.Store.{Ghosts}
use Rattle.sqlite.specs.Tree.{Trees}
use Rattle.sqlite.specs.Schema.{Schema}
use Rattle.sqlite.specs.State.{State, HasCleanDisk}
use Rattle.sqlite.specs.Held.{Held, held_code, state}
use Rattle.acceptor.specs.Content.{Content, no_content, promised}
use Rattle.acceptor.specs.Found.{Holds, AddsNothing}
use Rattle.ballots.specs.declared.members.Members.{Members}
use Rattle.ballots.specs.declared.members.Members.TheVariants.{Three, Five}
use Rattle.acceptor_store_parts.specs.declared.Version.{Version}
use Rattle.acceptor_store_parts.specs.declared.Version.TheVariants.{First, Second, Third, Fourth}
use Rattle.acceptor_store_parts.specs.declared.owner.Owner.{Owner}
use Rattle.acceptor_store_parts.specs.Tables.{schema_of, blank_schema}
use Rattle.acceptor_store_parts.specs.Rowids.{IsReread, Rereads}
use Rattle.acceptor_store.specs.declared.known.Numbers.{Numbers}
use Rattle.acceptor_store_parts.specs.Stored.{AreTablesOf, IsOfNode, number_row, numbers_of}
use Rattle.acceptor_store_parts.specs.Owned.{AreTablesFor, schema_for}
use Rattle.acceptor_store_parts.specs.Foreign.{IsForeign, IsForeignSchema}
use Rattle.acceptor_store_parts.specs.Serves.{ServesAs, ServesAt, ServesFor}
use Rattle.acceptor_store_parts.specs.Tests.{IsShutBy}

-- records as their contracts see them
pub record Linked (S : Type 0) : Type 0 where
  -- the connection, or what it was before a reopen that couldn't open its store
  pub held : Option (Held S)
  -- no statement has failed since the tables were tested
  pub is_up : Bool
  -- there is a connection: no reopen has failed so far to open the store
  pub is_linked : Bool
  -- the ballot tried and the promised one, and an owner's count, as the tables have them while it is up
  pub numbers : Numbers
  pub failures : ℕ
  -- whose they are, where they have an owner
  pub owner : Option Owner

-- an owner is stored as its node's number, and whether it is one of five
abbrev pub is_five : Members → Bool
is_five Three = false
is_five Five = true

abbrev pub members_by : Bool → Members
members_by false = Three
members_by true = Five

pub members_back : (members : Members) → members_by (is_five members) ≡ members
members_back Three = refl
members_back Five = refl

pub owner_back : (owner : Owner) → ◌≡◌ {A = Owner} (record { node = owner.node; members = members_by (is_five owner.members) }) owner
owner_back owner = λ i. record { node = owner.node; members = members_back owner.members i }

abbrev pub owner_code : Coded Owner
owner_code = code_by (ℕ × Bool) (coded× coded_ℕ coded_bool) (λ o. (o.node, is_five o.members)) (λ p. record { node = p.0; members = members_by p.1 }) owner_back

abbrev pub numbers_code : Coded Numbers
numbers_code =
    code_by (Option ℕ × (Option ℕ × Option ℕ)) (coded× (coded_option coded_ℕ) (coded× (coded_option coded_ℕ) (coded_option coded_ℕ)))
    (λ n. (n.tried, (n.promised, n.count))) (λ p. record { tried = p.0; promised = p.1.0; count = p.1.1 }) (λ _. refl)

-- they are stored as the tuple of their fields
abbrev pub linked_code : {S : Type 0} → Coded S → Coded (Linked S)
linked_code {S} store =
    code_by (Option (Held S) × (Bool × (Bool × (Numbers × (ℕ × Option Owner)))))
    (coded× (coded_option (held_code store)) (coded× coded_bool (coded× coded_bool (coded× numbers_code (coded× coded_ℕ (coded_option owner_code))))))
    (λ r. (r.held, (r.is_up, (r.is_linked, (r.numbers, (r.failures, r.owner))))))
    (λ p. record { held = p.0; is_up = p.1.0; is_linked = p.1.1.0; numbers = p.1.1.1.0; failures = p.1.1.1.1.0; owner = p.1.1.1.1.1 })
    (λ _. refl)

-- what an open after a crash at this moment may find, in tables of this owner
abbrev pub MayFindIn : {S : Type 0} → Ghosts S → Option Owner → Held S → Content → Type 0
MayFindIn g owner h c = ∥ ((db : Trees) × (state g h).may_leave db × AreTablesFor owner db c) ∥₁

-- the same where there may be none
abbrev pub MayFind : {S : Type 0} → Ghosts S → Option Owner → Option (Held S) → Content → Type 0
MayFind g owner None c = Unit {0}
MayFind g owner (Some h) c = MayFindIn g owner h c

-- the library has the disk clean, or had it so before a reopen that couldn't open the store
abbrev pub is_clean_in : {S : Type 0} → Ghosts S → Option (Held S) → Bool
is_clean_in g None = true
is_clean_in g (Some h) = (state g h).is_clean

-- so of the records
abbrev pub is_honest : {S : Type 0} → Ghosts S → Linked S → Bool
is_honest g r = is_clean_in g r.held

-- the records are honest
abbrev pub IsHonest : {S : Type 0} → Ghosts S → Linked S → Type 0
IsHonest g r = IsTrue (is_honest g r)

-- the ballot tried and the promised one are the content's
pub record AreNumbersOf (numbers : Numbers) (c : Content) : Type 0 where
  pub tries : number_of numbers.tried ≡ c.tried
  pub promises : number_of numbers.promised ≡ promised c

-- the greatest of a number and the ballots of the votes at other places than p
abbrev pub greatest_beside : ℕ → ℕ → List (ℕ × Cast) → ℕ
greatest_beside p m [] = m
greatest_beside p m (vote ∷ votes) = if vote.0 == p then greatest_beside p m votes else max vote.1.ballot (greatest_beside p m votes)

-- the count of an owner's tables, where it is known; without an owner there is none
abbrev pub IsKnownCount : Option Owner → ℕ → Option ℕ → Type 0
IsKnownCount None n count = count ≡ None
IsKnownCount (Some owner) n count = count ≡ Some n

-- it serves this content for this owner, at the count that is known
abbrev pub ServesKnown : Option Owner → Option ℕ → State → Content → Type 0
ServesKnown owner count s c = (n : ℕ) × IsKnownCount owner n count × ServesAt owner n s c

-- what it served for this owner, it serves, at this count
abbrev pub StaysKnown : Option Owner → Option ℕ → State → State → Type 0
StaysKnown owner count old new = (c : Content) → ServesFor owner old c → ServesKnown owner count new c

-- it serves some content, which has these numbers
abbrev pub Knows : {S : Type 0} → Ghosts S → Option Owner → Held S → Numbers → Type 0
Knows g owner h numbers = (c : Content) × ServesKnown owner numbers.count (state g h) c × AreNumbersOf numbers c

-- whatever a crash leaves holds some content, and is this owner's
abbrev pub Stands : {S : Type 0} → Ghosts S → Option Owner → Held S → Type 0
Stands g owner h = (db : Trees) → (state g h).may_leave db → ∥ ((c : Content) × AreTablesFor owner db c) ∥₁

-- an honest connection stands, and while it is up it serves some content
abbrev pub IsServing : {S : Type 0} → Ghosts S → Option Owner → Held S → Bool → Numbers → Type 0
IsServing g owner h is_up numbers = HasCleanDisk (state g h) → Stands g owner h × (is_up ≡ true → Knows g owner h numbers)

-- with no connection it is known what it was, and the records aren't up
abbrev pub IsLinked : {S : Type 0} → Ghosts S → Option Owner → Option (Held S) → Option (Held S) → Bool → Numbers → Type 0
IsLinked g owner None was is_up numbers = IsSome was × (is_up ≡ false)
IsLinked g owner (Some h) was is_up numbers = IsServing g owner h is_up numbers

-- the connection, or what it was
abbrev pub held_of : {S : Type 0} → Option (Held S) → Option (Held S) → Option (Held S)
held_of None was = was
held_of (Some h) was = Some h

-- a connection that was tested serves this content, and a crash leaves that
abbrev pub IsTested : {S : Type 0} → Ghosts S → Option Owner → Held S → Held S → Numbers → Content → Type 0
IsTested g owner old new numbers c =
    ServesKnown owner numbers.count (state g new) c × AreNumbersOf numbers c × Stands g owner new × Holds (MayFindIn g owner new) c
    × ((db : Trees) → (state g new).may_leave db → db ≡ (state g old).committed.trees)

-- it serves no content for this owner
abbrev pub ServesNone : Option Owner → State → Type 0
ServesNone owner s = (c : Content) → ServesFor owner s c → ⊥

-- what tests of the tables told
abbrev pub Tells : {S : Type 0} → Ghosts S → Option Owner → Held S → Held S → Numbers → Type 0
Tells g owner old new numbers =
    ((state g old).now.schema ≡ schema_for owner) × ((c : Content) → ServesFor owner (state g old) c → IsTested g owner old new numbers c)

-- its tables are those of this owner's records, and serve no content
abbrev pub CannotBeRead : Option Owner → State → Type 0
CannotBeRead owner s = (s.now.schema ≡ schema_for owner) × ServesNone owner s

-- a connection opened anew, read or not, which leaves what the old one may have left
pub record Leaves {S : Type 0} (g : Ghosts S) (owner : Option Owner) (old new : Held S) : Type 0 where
  pub was_clean : HasCleanDisk (state g old)
  pub stands : Stands g owner old → Stands g owner new
  pub adds_nothing : Stands g owner old → AddsNothing (MayFindIn g owner old) (MayFindIn g owner new)

-- a connection opened anew serves what the old one may have left
pub record Reopens {S : Type 0} (g : Ghosts S) (owner : Option Owner) (old new : Held S) (numbers : Numbers) : Type 0 where
  pub knows : Stands g owner old → Knows g owner new numbers
  pub holds : (before : Stands g owner old) → Holds (MayFindIn g owner new) (knows before).0

-- a version whose tables have no owner
abbrev pub IsUnownedVersion : Version → Type 0
IsUnownedVersion First = Unit {0}
IsUnownedVersion Second = Unit {0}
IsUnownedVersion Third = ⊥
IsUnownedVersion Fourth = ⊥

-- the table of numbers has these
abbrev pub HasNumbers : Version → Trees → ℕ → ℕ → Type 0
HasNumbers version db tried row = db 0 ≡ map (λ e. number_row e.0 e.1) (numbers_of version tried row)

-- it sees what it saw, and serves in this version what it served
abbrev pub StaysAs : Version → State → State → Type 0
StaysAs version old new = (new.now ≡ old.now) × ((c : Content) → ServesAs version old c → ServesAs version new c)

-- it serves in this version what its tables hold, which a node wrote and which has these numbers
abbrev pub Examines : {S : Type 0} → Ghosts S → Version → Held S → Held S → Numbers → Type 0
Examines g version old new numbers =
    IsReread version (state g old)
    → (c : Content) × AreTablesOf version (state g old).now.trees c × IsOfNode c × ServesAs version (state g new) c × AreNumbersOf numbers c

-- the last commit holds this content, which a node wrote, in tables of this version
abbrev pub HadIn : {S : Type 0} → Ghosts S → Version → Held S → Content → Type 0
HadIn g version conn c = ((state g conn).now.schema ≡ schema_of version) × AreTablesOf version (state g conn).committed.trees c × IsOfNode c

-- the last commit holds the content, which a node wrote, in tables of one of the versions, or has no tables at all
abbrev pub Had : {S : Type 0} → Ghosts S → Held S → Content → Type 0
Had g conn c = (((state g conn).now.schema ≡ blank_schema) × (c ≡ no_content)) ⊎ ((version : Version) × HadIn g version conn c)

-- a crash left it before too, or these are tables of version 2 of the content that the connection had, which a node
-- wrote: of a database that no node wrote nothing else is left
abbrev pub IsLeftWhole : {S : Type 0} → Ghosts S → Held S → Trees → Type 0
IsLeftWhole g conn db = (state g conn).may_leave db ⊎ ((c : Content) × Had g conn c × AreTablesFor None db c)

-- it serves in this version what the older one had, which has these numbers
abbrev pub FindsContent : {S : Type 0} → Ghosts S → Version → Held S → Held S → Numbers → Type 0
FindsContent g version old new numbers =
    (c : Content) × HadIn g version old c × ServesAs version (state g new) c × AreNumbersOf numbers c

-- no node without an owner wrote the database that the connection sees
abbrev pub SeesForeign : {S : Type 0} → Ghosts S → Held S → Type 0
SeesForeign g conn = IsForeign (state g conn).now.schema (state g conn).committed.trees

-- tables, indexes or views beside the tables of a version or without them, or these declared otherwise, of which a node
-- made none or all
abbrev pub HasFurther : Schema → Type 0
HasFurther s = (IsForeignSchema s → ⊥) × ((version : Version) → s ≢ schema_of version) × (s ≢ blank_schema)

-- a read found the connection shut, its disk failed or refused meanwhile, or it took all the steps that it may
abbrev pub HasStopped : State → State → Type 0
HasStopped old new = IsShutBy old new ⊎ IsSome old.step_limit

-- the disk failed or refused after the store was opened anew over what was committed
abbrev pub FailsAnew : {S : Type 0} → Ghosts S → Version → Held S → S → Type 0
FailsAnew {S} g version conn store = (again : Held S) × Rereads version (state g conn) (state g again) × MoreFaults (state g again).faults (g.faults store)

-- there are no tables yet, or those of version 1 with content that a node wrote
abbrev pub IsToMake : {S : Type 0} → Ghosts S → Held S → Type 0
IsToMake g conn = ((state g conn).now.schema ≡ blank_schema) ⊎ ((c : Content) × HadIn g First conn c)

-- why an open is Refused that gives this store back: an open transaction, what stands beside the tables, tables that
-- were to be made, or a disk that failed
abbrev pub IsRefused : {S : Type 0} → Ghosts S → Held S → S → Type 0
IsRefused g conn store =
    IsTrue (state g conn).in_transaction ⊎ (HasFurther (state g conn).now.schema ⊎ (IsToMake g conn ⊎ ((version : Version) × FailsAnew g version conn store)))

-- it serves what the older one had, which has these numbers
abbrev pub MakesReady : {S : Type 0} → Ghosts S → Held S → Held S → Numbers → Type 0
MakesReady g old new numbers = (c : Content) × Had g old c × ServesKnown None numbers.count (state g new) c × AreNumbersOf numbers c
