-- What an open of a copy tells of it is so.
use Rattle.std.proofs.Common.{◌≡◌, ◌≢◌, ◌∙◌, ◌⊎◌, ◌≤◌, inl, inr, ℕ, Bool, IsTrue, true, false, Option, Some, None, Result, Ok, Err, IfOk, IfErr, List, [], ◌∷◌, refl, sym, subst, ap, ap₂, true≢false, arith}
use Rattle.std.proofs.lemmas.Bool.{and_from, and_parts}
use Rattle.acceptor.specs.Content.{Content, no_content}
use Rattle.acceptor_store.specs.Linked.{Had, SeesForeign, is_clean_in}
use Rattle.acceptor_store.specs.Owning.{HadAs, IsDue}
use Rattle.acceptor_store.specs.declared.OpenFault.{OpenFault}
use Rattle.acceptor_store.specs.declared.OpenFault.TheVariants as opening
use Rattle.acceptor_store.specs.declared.owned.OwnerFault.{OwnerFault}
use Rattle.acceptor_store.specs.declared.owned.OwnerFault.TheVariants as owner
use Rattle.acceptor_store_parts.specs.Foreign.{IsForeign, IsForeignOwned, IsUnowned}
use Rattle.acceptor_store_parts.specs.Owned.{NamesOwner, count_bytes, owner_bytes}
use Rattle.sqlite.specs.Order.{Row}
use Rattle.acceptor_store_parts.specs.Stored.{AreTablesOf, fact_row}
use Rattle.acceptor_store_parts.specs.Tables.{blank_schema}
use Rattle.acceptor_store_parts.specs.declared.owner.Owner.{Owner}
use Rattle.ballots.specs.Members.{member_count}
use Rattle.ballots.specs.declared.members.Members.{Members}
use Rattle.ballots.specs.declared.members.Members.TheVariants.{Three, Five}
use Rattle.sqlite.specs.Effect.{Database}
use Rattle.sqlite.specs.Files.{HoldsDatabase, faults_of, image_of}
use Rattle.sqlite.specs.Held.{Held, state}
use Rattle.sqlite.specs.Schema.{Schema}
use Rattle.sqlite.specs.State.{Opens}
use Rattle.sqlite.specs.Store.{Ghosts}
use Rattle.sqlite.specs.Tree.{Trees}
use Rattle.sqlite_disk.specs.Disk.{MoreFaults}
use Rattle.sqlite_disk.specs.declared.Disk as disk
use Rattle.sqlite_disk.specs.declared.Files.{Files}
use Rattle.sqlite_trees.proofs.Doubt.{clean_of}
use Rattle.sqlite_wal.specs.Reads.{AreClean}
use Rattle.sqlite_wal.specs.Recovery.{Image}
use Rattle.stored_nodes.specs.Kept.{IsOwnedAs}
use Rattle.stored_nodes.specs.Looks.{AlwaysClean, IsMember, IsOtherSchema, IsRead, IsSeenAs, IsToldIn, IsToldOf, IsUnownedAs}
use Rattle.stored_nodes.specs.Told.{IsStateOf}
use Rattle.stored_nodes.specs.Lost.{IsDueBefore}
use Rattle.stored_nodes.specs.States.{IsTold, StayFiles, told_owned, told_refused, told_start, told_unowned}
use Rattle.stored_nodes.specs.declared.start.StartFault.{StartFault}
use Rattle.stored_nodes.specs.declared.start.StartFault.TheVariants as start
use Rattle.stored_nodes.specs.declared.states.FilesState.{FilesState}
use Rattle.stored_nodes.specs.declared.states.FilesState.TheVariants.{OtherNode, Unusable, Lost}
use Rattle.stored_nodes.specs.declared.states.Told.{Told}
use Rattle.stored_nodes.specs.declared.states.Told.TheVariants.{State, NoOwner, Memory}

-- records over stores that are clean are honest
pub always_honest : {S : Type 0} (g : Ghosts S) → AlwaysClean g → (held : Option (Held S)) → IsTrue (is_clean_in g held)
always_honest g always None = refl
always_honest g always (Some h) = clean_of (g.view h.store).is_clean (always h.store)

-- what the last commit has is what a connection that was opened sees
seen_trees : {S : Type 0} (g : Ghosts S) (conn : Held S) → Opens (state g conn) → (state g conn).committed.trees ≡ (state g conn).now.trees
seen_trees g conn opens = ap (λ (d : Database). d.trees) (sym opens.clean)

-- why an open for an owner failed is so of the tables
pub refused_owned : {S : Type 0} (g : Ghosts S) (wanted : Owner) (conn : Held S) (fault : OwnerFault) (known : Bool) → Opens (state g conn) → (known ≡ false → IsOtherSchema (state g conn).now.schema)
    → (IsUnowned (state g conn).now.schema → ⊥) → IsDue g wanted false conn fault → IsTold (IsToldOf wanted (state g conn).now) (told_refused fault known)
refused_owned g wanted conn owner.Blank known opens other owned due = inl due.0
refused_owned g wanted conn owner.Unowned known opens other owned due = absurd (owned due)
refused_owned g wanted conn (owner.OtherNode found) known opens other owned due = (subst (λ t. NamesOwner found t) (seen_trees g conn opens) due.0.1, inl due.1)
refused_owned g wanted conn (owner.OtherMembers found) known opens other owned due = (subst (λ t. NamesOwner found t) (seen_trees g conn opens) due.0.1, inr due.2)
refused_owned g wanted conn (owner.Open opening.Refused) true opens other owned due = tt
refused_owned g wanted conn (owner.Open opening.Refused) false opens other owned due = inl (other refl)
refused_owned g wanted conn (owner.Open opening.Broken) known opens other owned due = tt
refused_owned g wanted conn (owner.Open opening.OutOfMemory) known opens other owned due = tt
refused_owned g wanted conn (owner.Open opening.Foreign) known opens other owned due = inr (inl (subst (λ t. IsForeignOwned (state g conn).now.schema t) (seen_trees g conn opens) due))

-- so is why one for nobody failed
pub refused_unowned : {S : Type 0} (g : Ghosts S) (wanted : Owner) (conn : Held S) (fault : OpenFault) (known : Bool) → Opens (state g conn) → (known ≡ false → IsOtherSchema (state g conn).now.schema)
    → IsUnowned (state g conn).now.schema → (fault ≡ opening.Foreign → SeesForeign g conn) → IsTold (IsToldOf wanted (state g conn).now) (told_refused (owner.Open fault) known)
refused_unowned g wanted conn opening.Refused true opens other unowned foreign = tt
refused_unowned g wanted conn opening.Refused false opens other unowned foreign = inl (other refl)
refused_unowned g wanted conn opening.Broken known opens other unowned foreign = tt
refused_unowned g wanted conn opening.OutOfMemory known opens other unowned foreign = tt
refused_unowned g wanted conn opening.Foreign known opens other unowned foreign =
    inr (inr (unowned, subst (λ t. IsForeign (state g conn).now.schema t) (seen_trees g conn opens) (foreign refl)))

-- whether a content is none
abbrev Decides : Content → Bool → Type 0
Decides c is = (is ≡ true → c ≡ no_content) × (is ≡ false → c ≢ no_content)

-- what records of an owner hold is so
pub held_owned : {S : Type 0} (g : Ghosts S) (wanted : Owner) (conn : Held S) (c : Content) (r : Result Bool StartFault) → Opens (state g conn) → HadAs g wanted false conn c → IfErr r (λ e. e ≡ start.OutOfMemory) → IfOk r (Decides c)
    → IsTold (IsToldOf wanted (state g conn).now) (told_owned r)
held_owned g wanted conn c r opens (inl blank) memory is = absurd (true≢false (sym blank.1))
held_owned g wanted conn c (Err e) opens (inr had) memory is = subst (λ e. IsTold (IsToldOf wanted (state g conn).now) (told_start e)) (sym memory) tt
held_owned g wanted conn c (Ok true) opens (inr had) memory is =
    subst (λ c. IsOwnedAs wanted (state g conn).now.trees c) (is.0 refl) (subst (λ t. IsOwnedAs wanted t c) (seen_trees g conn opens) (had.1, had.2))
held_owned g wanted conn c (Ok false) opens (inr had) memory is = (c, is.1 refl, subst (λ t. IsOwnedAs wanted t c) (seen_trees g conn opens) (had.1, had.2))

-- a schema without tables isn't one of nobody's
blank_owned : (s : Schema) → s ≡ blank_schema → IsUnowned s → ⊥
blank_owned s blank unowned = absurd (true≢false (sym (subst (λ (s : Schema). IsUnowned s) blank unowned).2))

had_unowned : {S : Type 0} (g : Ghosts S) (conn : Held S) (c : Content) → Opens (state g conn) → IsUnowned (state g conn).now.schema → Had g conn c → IsUnownedAs (state g conn).now c
had_unowned g conn c opens unowned (inl blank) = absurd (blank_owned _ blank.0 unowned)
had_unowned g conn c opens unowned (inr had) = (unowned, (had.0, had.1.0, subst (λ t. AreTablesOf had.0 t c) (seen_trees g conn opens) had.1.1, had.1.2))

-- and what records of nobody hold
pub held_unowned : {S : Type 0} (g : Ghosts S) (wanted : Owner) (conn : Held S) (c : Content) (r : Result Bool StartFault) → Opens (state g conn) → IsUnowned (state g conn).now.schema → Had g conn c
    → IfErr r (λ e. e ≡ start.OutOfMemory) → IfOk r (Decides c) → IsTold (IsToldOf wanted (state g conn).now) (told_unowned r)
held_unowned g wanted conn c (Err e) opens unowned had memory is = subst (λ e. IsTold (IsToldOf wanted (state g conn).now) (told_start e)) (sym memory) tt
held_unowned g wanted conn c (Ok true) opens unowned had memory is = inr (subst (λ c. IsUnownedAs (state g conn).now c) (is.0 refl) (had_unowned g conn c opens unowned had))
held_unowned g wanted conn c (Ok false) opens unowned had memory is = (c, is.1 refl, had_unowned g conn c opens unowned had)

-- what is so of the database is so of the bytes
pub told_in : (image : Image) (wanted : Owner) (d : Database) (told : Told) → IsRead image d → IsTold (IsToldOf wanted d) told → IsTold (IsToldIn image wanted) told
told_in image wanted d (State found) read is = inr (d, read, is)
told_in image wanted d NoOwner read is = inr (d, read, is)
told_in image wanted d Memory read is = tt

seen_as : (image : Image) (wanted : Owner) (old new : ℕ) (found : FilesState) → IsToldIn image wanted found → IsSeenAs image wanted old new found
seen_as image wanted old new (Unusable why) (inl none) = absurd (cc (none.1))
seen_as image wanted old new (Unusable why) (inr is) = absurd is.2
seen_as image wanted old new found is = is

-- a copy in memory has no other fault
pub told_seen : (image : Image) (wanted : Owner) (old new : ℕ) (told : Told) → IsTold (IsToldIn image wanted) told → IsTold (IsSeenAs image wanted old new) told
told_seen image wanted old new (State found) is = seen_as image wanted old new found is
told_seen image wanted old new NoOwner is = is
told_seen image wanted old new Memory is = tt

later : (old mid new : ℕ) → old ≤ mid → MoreFaults mid new → MoreFaults old new
later old mid new since more = omega (arith, since, more)

abbrev own : ℕ → Members → Owner
own id members = record { node = id; members = members }

-- another owner's name is so told where the node isn't one of its members
abbrev IsOtherIn : Image → ℕ → Told → Type 0
IsOtherIn image id told = (other : Owner) → told ≡ State (OtherNode other) → (db : Trees) → HoldsDatabase image db → IsMember id other → ⊥

state_of : (image : Image) (id : ℕ) (members : Members) (old mid new : ℕ) → old ≤ mid → (found : FilesState) → IsOtherIn image id (State found) → IsSeenAs image (own id members) mid new found → IsStateOf image id old new found
state_of image id members old mid new since (Unusable why) other is = inl (later old mid new since is)
state_of image id members old mid new since (OtherNode found) other (inl none) = absurd (cc (none.1))
state_of image id members old mid new since (OtherNode found) other (inr is) = ((is.0, is.1, is.2.0), other found refl)
state_of image id members old mid new since (Lost loss) other (inl none) = absurd (cc (none.1))
state_of image id members old mid new since (Lost loss) other (inr is) = absurd is.2
state_of image id members old mid new since found other is = (members, is)

-- what a copy told is so of the files
pub told_state : (image : Image) (id : ℕ) (members : Members) (old mid new : ℕ) → old ≤ mid → (told : Told) → IsOtherIn image id told → IsTold (IsSeenAs image (own id members) mid new) told → IsTold (IsStateOf image id old new) told
told_state image id members old mid new since (State found) other is = state_of image id members old mid new since found other is
told_state image id members old mid new since NoOwner other is = (members, is)
told_state image id members old mid new since Memory other is = tt

same_count : (a b : Members) → member_count a ≡ member_count b → a ≡ b
same_count Three Three is = refl
same_count Three Five is = absurd (cc (is))
same_count Five Three is = absurd (cc (is))
same_count Five Five is = refl

-- the first row names it, in version 4 or 3
named_first : (a : Owner) (db : Trees) → NamesOwner a db → (rest : List Row) × (db 3 ≡ fact_row (0, owner_bytes a) ∷ rest)
named_first a db (inl by) = (fact_row (1, count_bytes by.0) ∷ [], by.1.1)
named_first a db (inr before) = ([], before)

-- a database names one owner
one_owner : (a b : Owner) (db : Trees) → NamesOwner a db → NamesOwner b db → (a.node ≡ b.node) × (a.members ≡ b.members)
one_owner a b db is also =
    let one = named_first a db is in
    let other = named_first b db also in
    let rows : fact_row (0, owner_bytes a) ∷ one.0 ≡ fact_row (0, owner_bytes b) ∷ other.0 = sym one.1 ∙ other.1 in
    let node : a.node ≡ b.node = cc (rows) in
    let count : member_count a.members ≡ member_count b.members = cc (rows) in
    (node, same_count a.members b.members count)

names_one : (wanted found : Owner) (db : Trees) → NamesOwner wanted db → (found.node ≢ wanted.node) ⊎ (found.members ≢ wanted.members) → NamesOwner found db → ⊥
names_one wanted found db is differs also = let same = one_owner found wanted db also is in elim differs [
  | inl node ↦ node same.0
  | inr members ↦ members same.1
]

named_once : (image : Image) (id : ℕ) (members : Members) (mid new : ℕ) (found : FilesState) (d : Database) → IsRead image d → NamesOwner (own id members) d.trees → IsSeenAs image (own id members) mid new found → IsOtherIn image id (State found)
named_once image id members mid new found d read owned is other so db holds member =
    let same : found ≡ OtherNode other = cc so in
    let here : IsSeenAs image (own id members) mid new (OtherNode other) = subst (λ f. IsSeenAs image (own id members) mid new f) same is in
    elim here [
      | inl none ↦ absurd (cc (none.1))
      | inr it ↦ names_one (own id members) other db (subst (λ t. NamesOwner (own id members) t) (read.holds db holds) owned) it.2.1 (subst (λ t. NamesOwner other t) (it.1.holds db holds) it.2.0)
    ]

-- where the files named this node among these members, an open for it among them tells no other owner
pub named_then : (image : Image) (id : ℕ) (asked members : Members) (old mid new : ℕ) (first told : Told) → first ≡ State (OtherNode (own id members)) → IsTold (IsSeenAs image (own id asked) old mid) first
    → IsTold (IsSeenAs image (own id members) mid new) told → IsOtherIn image id told
named_then image id asked members old mid new first (State found) named was is =
    let here : IsSeenAs image (own id asked) old mid (OtherNode (own id members)) = subst (λ t. IsTold (IsSeenAs image (own id asked) old mid) t) named was in
    elim here [
      | inl none ↦ absurd (cc (none.1))
      | inr it ↦ named_once image id members mid new found it.0 it.1 it.2.0 is
    ]
named_then image id asked members old mid new first NoOwner named was is = λ other so. absurd (cc so)
named_then image id asked members old mid new first Memory named was is = λ other so. absurd (cc so)

since_state : (image : Image) (id old mid new : ℕ) → old ≤ mid → (found : FilesState) → IsStateOf image id mid new found → IsStateOf image id old new found
since_state image id old mid new since (Unusable why) (inl more) = inl (later old mid new since more)
since_state image id old mid new since (Unusable why) (inr full) = inr full
since_state image id old mid new since found is = is

-- what is so since an earlier count of failed calls
pub told_since : (image : Image) (id old mid new : ℕ) → old ≤ mid → (told : Told) → IsTold (IsStateOf image id mid new) told → IsTold (IsStateOf image id old new) told
told_since image id old mid new since (State found) is = since_state image id old mid new since found is
told_since image id old mid new since NoOwner is = is
told_since image id old mid new since Memory is = tt

-- what is refused before an open is so of the files
pub told_due : (image : Image) (id old new : ℕ) (fault : StartFault) → IsDueBefore image old new fault → IsTold (IsStateOf image id old new) (told_start fault)
told_due image id old new (start.Lost loss) is = is
told_due image id old new (start.Unusable why) is = is
told_due image id old new start.OutOfMemory is = tt
told_due image id old new start.NoFile is = absurd is
told_due image id old new start.InUse is = absurd is
told_due image id old new (start.Unopened fault) is = absurd is
told_due image id old new start.NotFresh is = absurd is
told_due image id old new (start.Unread fault) is = absurd is

abbrev pub image_with : List ℕ → List ℕ → Image
image_with log db = record { log = log; db = db }

-- what a second look tells, for the members that the files named, is so of the files as they were before the first
pub told_again : {D : Type 0} (g : disk.Ghosts D) (files first last : Files D) (id : ℕ) (asked members : Members) (one two : Told) → StayFiles g files first → StayFiles g first last → faults_of g files ≤ faults_of g first
    → one ≡ State (OtherNode (own id members)) → (AreClean g first.log first.db → IsTold (IsSeenAs (image_of g files) (own id asked) (faults_of g files) (faults_of g first)) one)
    → (AreClean g last.log last.db → IsTold (IsSeenAs (image_of g first) (own id members) (faults_of g first) (faults_of g last)) two) → AreClean g last.log last.db
    → IsTold (IsStateOf (image_of g files) id (faults_of g files) (faults_of g last)) two
told_again g files first last id asked members one two stay then since named was is clean =
    let sure = and_parts (g.is_clean last.log) (g.is_clean last.db) clean in
    let before : AreClean g first.log first.db = and_from (g.is_clean first.log) (g.is_clean first.db) (then.0.2 sure.0) (then.1.2 sure.1) in
    let same : image_of g first ≡ image_of g files = ap₂ image_with stay.0.0 stay.1.0 in
    let here = subst (λ i. IsTold (IsSeenAs i (own id members) (faults_of g first) (faults_of g last)) two) same (is clean) in
    told_state (image_of g files) id members (faults_of g files) (faults_of g first) (faults_of g last) since two
    (named_then (image_of g files) id asked members (faults_of g files) (faults_of g first) (faults_of g last) one two named (was before) here) here
