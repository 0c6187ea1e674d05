-- A step as a table of TOML: an event, or a delivery that names its letter. Further keys don't count.
use Rattle.std.specs.Prelude.{◌≡◌, ◌⊎◌, ◌||◌, ℕ, Bool, true, false, List, Option, Some, None, is_some, codes}
use Rattle.toml.specs.Data.{Data, boolean, get}
use Rattle.script_steps.specs.declared.name.Kind.{Kind}
use Rattle.script_steps.specs.declared.name.Kind.TheVariants.{Prepare, Promise, Accept, Voted, Higher, Known}
use Rattle.script_steps.specs.declared.name.Name.{Name}
use Rattle.script_steps.specs.declared.step.Step.{Step}
use Rattle.script_steps.specs.declared.step.Step.TheVariants.{Plain, Deliver, DeliverThenCrash}
use Rattle.script_text.specs.EventTable.{MeansEvent}
use Rattle.script_text.specs.Fields.{HasText, HasNumber, HasNode}
use Rattle.script_text.specs.CommandTable.{IsDefault}

-- the word of a kind of letter
abbrev pub kind_word : Kind → List ℕ
kind_word Prepare = codes "prepare"
kind_word Promise = codes "promise"
kind_word Accept = codes "accept"
kind_word Voted = codes "voted"
kind_word Higher = codes "higher"
kind_word Known = codes "known"

abbrev pub HasKind : Data → Kind → Type 0
HasKind d kind = HasText d (codes "note") (kind_word kind)

-- the key isn't there, or it holds this
abbrev pub MayHave : {X : Type 0} → (X → Type 0) → Data → List ℕ → Option X → Type 0
MayHave Has d key None = get key d ≡ None
MayHave Has d key (Some x) = Has x

-- whether the letter comes again; it doesn't where the key isn't there
abbrev pub HasAgain : Data → Bool → Type 0
HasAgain d again = (get (codes "again") d ≡ Some (boolean again)) ⊎ IsDefault d (codes "again") false again

-- the parts of a name, each under its key, and with them whether the letter comes again
pub record HasParts (d : Data) (name : Name) : Type 0 where
  pub from : MayHave (HasNode d (codes "from")) d (codes "from") name.from
  pub to : MayHave (HasNode d (codes "to")) d (codes "to") name.to
  pub kind : MayHave (HasKind d) d (codes "note") name.kind
  pub ballot : MayHave (HasNumber d (codes "ballot") 64) d (codes "ballot") name.ballot
  pub place : MayHave (HasNumber d (codes "place") 64) d (codes "place") name.place

pub record HasFields (d : Data) (name : Name) : Type 0 where
  pub parts : HasParts d name
  pub again : HasAgain d name.again

-- a name says from whom, to whom, or of what kind a letter is
abbrev pub says_whose : Name → Bool
says_whose name = is_some name.from || (is_some name.to || is_some name.kind)

-- the table names a letter so
abbrev pub HasName : Data → Name → Type 0
HasName d name = HasFields d name × (says_whose name ≡ true)

-- the table is a delivery of this kind that names its letter so, and has no number of a letter
pub record IsNamed (d : Data) (word : List ℕ) (letter : Name) : Type 0 where
  pub kind : HasText d (codes "kind") word
  pub unnumbered : get (codes "letter") d ≡ None
  pub name : HasName d letter

-- the table means the step
abbrev pub MeansStep : Data → Step → Type 0
MeansStep d (Plain event) = MeansEvent d event
MeansStep d (Deliver name) = IsNamed d (codes "deliver") name
MeansStep d (DeliverThenCrash name) = IsNamed d (codes "deliver_then_crash") name

-- the table is no delivery that names its letter
abbrev pub NamesNone : Data → Type 0
NamesNone d = (name : Name) → ¬ (IsNamed d (codes "deliver") name ⊎ IsNamed d (codes "deliver_then_crash") name)
