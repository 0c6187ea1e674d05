-- A script whose deliveries may name their letters, or be of all that wait: members, ids of modems, and entries, under
-- keys of a TOML text.
use Rattle.std.specs.Prelude.{◌≡◌, ℕ, List, Option, Some, None, codes, map}
use Rattle.toml.specs.Data.{Members}
use Rattle.toml.specs.Parse.{parse_document}
use Rattle.ballots.specs.declared.members.Members.{Members as NodeCount}
use Rattle.world_events.specs.declared.event.Event.{Event}
use Rattle.script_steps.specs.declared.entry.Entry.{Entry}
use Rattle.script_steps.specs.declared.entry.Entry.TheVariants.{One}
use Rattle.script_steps.specs.declared.step.Step.TheVariants.{Plain}
use Rattle.script_text.specs.declared.script.ScriptFault.{ScriptFault}
use Rattle.script_text.specs.declared.script.ScriptFault.TheVariants.{NotToml, BadEvent, BadMembers, OutOfMemory}
use Rattle.script_text.specs.Items.{items_at, tables_at, AllMean, IsBadIndex}
use Rattle.script_text.specs.Script.{HasMembers, HasModems, IsScript, TellsWorld}
use Rattle.script_text.specs.EntryTable.{MeansEntry}

-- the entries of a table, and its bad position
abbrev pub HasSteps : Members → List Entry → Type 0
HasSteps ms entries = AllMean MeansEntry (items_at ms (codes "event")) entries

abbrev pub IsBadStepAt : Members → ℕ → Type 0
IsBadStepAt ms position = IsBadIndex MeansEntry (tables_at ms (codes "event")) position

-- the table is a script of these members, ids of modems and entries
pub record IsStepTable (ms : Members) (count : NodeCount) (ids : List ℕ) (asked : List Entry) : Type 0 where
  pub members : HasMembers ms count
  pub modems : HasModems ms ids
  pub steps : HasSteps ms asked

-- why a table is no such script: first its members and modems count, then its entries. Want of memory says nothing
abbrev pub IsStepTableFault : Members → ScriptFault → Type 0
IsStepTableFault ms NotToml = ⊥
IsStepTableFault ms (BadEvent position) = TellsWorld ms × IsBadStepAt ms position
IsStepTableFault ms BadMembers = ¬ TellsWorld ms
IsStepTableFault ms OutOfMemory = Unit {0}

-- the text is a script of these members, ids of modems and entries
abbrev pub IsStepScript : List ℕ → NodeCount → List ℕ → List Entry → Type 0
IsStepScript text count ids entries = (ms : Members) × (parse_document text ≡ Some ms) × IsStepTable ms count ids entries

-- why a text isn't read as such a script: it is no TOML, or its table is none. Want of memory says nothing
abbrev pub IsStepFault : List ℕ → ScriptFault → Type 0
IsStepFault text NotToml = parse_document text ≡ None
IsStepFault text (BadEvent position) = (ms : Members) × (parse_document text ≡ Some ms) × IsStepTableFault ms (BadEvent position)
IsStepFault text BadMembers = (ms : Members) × (parse_document text ≡ Some ms) × IsStepTableFault ms BadMembers
IsStepFault text OutOfMemory = Unit {0}

-- the text is known to be no such script
abbrev pub NoSteps : Option (List ℕ) → Type 0
NoSteps None = ⊥
NoSteps (Some text) = (count : NodeCount) (ids : List ℕ) (entries : List Entry) → ¬ IsStepScript text count ids entries

-- a script of events is one of entries that are these events
abbrev pub EventsAreSteps : Type 0
EventsAreSteps = (text : List ℕ) (count : NodeCount) (ids : List ℕ) (events : List Event) → IsScript text count ids events → IsStepScript text count ids (map (λ event. One (Plain event)) events)
