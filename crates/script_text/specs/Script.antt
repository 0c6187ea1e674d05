-- A script: members, ids of modems, and events, under keys of a TOML text. Events count from 0.
use Rattle.std.specs.Prelude.{◌≡◌, ℕ, ◌^◌, ◌<◌, List, Option, Some, None, pos, codes}
use Rattle.toml.specs.Data.{Data, integer, Members, get_member}
use Rattle.toml.specs.Parse.{parse_document}
use Rattle.ballots.specs.declared.members.Members.{Members as NodeCount}
use Rattle.ballots.specs.Members.{member_count}
use Rattle.world_events.specs.declared.event.Event.{Event}
use Rattle.script_text.specs.declared.script.ScriptFault.{ScriptFault}
use Rattle.script_text.specs.declared.script.ScriptFault.TheVariants.{NotToml, BadEvent, BadMembers, OutOfMemory}
use Rattle.script_text.specs.EventTable.{MeansEvent}
use Rattle.script_text.specs.Items.{items_at, tables_at, AllMean, IsBadIndex}

-- ---- members and modems

-- the number of the members
abbrev pub HasMembers : Members → NodeCount → Type 0
HasMembers ms count = get_member (codes "members") ms ≡ Some (integer (pos (member_count count)))

-- a modem's id
pub record IsId (d : Data) (id : ℕ) : Type 0 where
  pub held : d ≡ integer (pos id)
  pub fits : id < 2 ^ 32

-- the ids of a table's modems
abbrev pub HasModems : Members → List ℕ → Type 0
HasModems ms ids = AllMean IsId (items_at ms (codes "modems")) ids

-- nothing is listed, told as bad members, or want of memory, which says nothing
abbrev pub IsNoIds : (List ℕ → Type 0) → ScriptFault → Type 0
IsNoIds Lists NotToml = ⊥
IsNoIds Lists (BadEvent position) = ⊥
IsNoIds Lists BadMembers = (ids : List ℕ) → ¬ Lists ids
IsNoIds Lists OutOfMemory = Unit {0}

-- ---- events

-- the events of a table, and its bad position
abbrev pub HasEvents : Members → List Event → Type 0
HasEvents ms events = AllMean MeansEvent (items_at ms (codes "event")) events

abbrev pub IsBadAt : Members → ℕ → Type 0
IsBadAt ms position = IsBadIndex MeansEvent (tables_at ms (codes "event")) position

-- a bad event at such a position, or want of memory, which says nothing
abbrev pub IsFaultAt : (ℕ → Type 0) → ScriptFault → Type 0
IsFaultAt P NotToml = ⊥
IsFaultAt P (BadEvent position) = P position
IsFaultAt P BadMembers = ⊥
IsFaultAt P OutOfMemory = Unit {0}

-- ---- scripts

-- the table tells members and modems
abbrev pub TellsWorld : Members → Type 0
TellsWorld ms = (count : NodeCount) × HasMembers ms count × (ids : List ℕ) × HasModems ms ids

-- the table is a script of these members, ids of modems and events
pub record IsScriptTable (ms : Members) (count : NodeCount) (ids : List ℕ) (happens : List Event) : Type 0 where
  pub members : HasMembers ms count
  pub modems : HasModems ms ids
  pub events : HasEvents ms happens

-- why a table is no script: first its members and modems count, then its events. Want of memory says nothing
abbrev pub IsTableFault : Members → ScriptFault → Type 0
IsTableFault ms NotToml = ⊥
IsTableFault ms (BadEvent position) = TellsWorld ms × IsBadAt ms position
IsTableFault ms BadMembers = ¬ TellsWorld ms
IsTableFault ms OutOfMemory = Unit {0}

-- the text is a script of these members, ids of modems and events
abbrev pub IsScript : List ℕ → NodeCount → List ℕ → List Event → Type 0
IsScript text count ids events = (ms : Members) × (parse_document text ≡ Some ms) × IsScriptTable ms count ids events

-- why a text isn't read as a script: it is no TOML, or its table is no script. Want of memory says nothing
abbrev pub IsScriptFault : List ℕ → ScriptFault → Type 0
IsScriptFault text NotToml = parse_document text ≡ None
IsScriptFault text (BadEvent position) = (ms : Members) × (parse_document text ≡ Some ms) × IsTableFault ms (BadEvent position)
IsScriptFault text BadMembers = (ms : Members) × (parse_document text ≡ Some ms) × IsTableFault ms BadMembers
IsScriptFault text OutOfMemory = Unit {0}

-- the text is known to be no script
abbrev pub NoScript : Option (List ℕ) → Type 0
NoScript None = ⊥
NoScript (Some text) = (count : NodeCount) (ids : List ℕ) (events : List Event) → ¬ IsScript text count ids events
