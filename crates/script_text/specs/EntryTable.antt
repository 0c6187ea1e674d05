-- An event of a script as a table of TOML: a step, or deliveries of all letters that wait. Further keys don't count.
use Rattle.std.specs.Prelude.{◌≡◌, ◌≢◌, ◌≤◌, ◌⊎◌, ◌||◌, ℕ, Bool, true, false, List, [], Option, Some, None, is_some}
use Rattle.std.specs.Prelude.{codes, option_map}
use Rattle.toml.specs.Data.{Data, as_array, get}
use Rattle.script_steps.specs.declared.name.Name.{Name}
use Rattle.script_steps.specs.Sweep.{Sweep}
use Rattle.script_steps.specs.declared.entry.Entry.{Entry}
use Rattle.script_steps.specs.declared.entry.Entry.TheVariants.{One, All}
use Rattle.script_text.specs.CommandTable.{IsDefault}
use Rattle.script_text.specs.Fields.{HasText, HasNumber}
use Rattle.script_text.specs.Items.{list_of, AllMean}
use Rattle.script_text.specs.StepTable.{HasParts, MeansStep}

-- a name says something of a letter
abbrev pub says_any : Name → Bool
says_any name = is_some name.from || (is_some name.to || (is_some name.kind || (is_some name.ballot || is_some name.place)))

-- the table excepts letters by this name, of which it says something
pub record IsExcept (d : Data) (name : Name) : Type 0 where
  pub parts : HasParts d name
  pub once : name.again ≡ false
  pub says : says_any name ≡ true

-- the names of an array of one table at least
abbrev pub IsListed : Data → List Name → Type 0
IsListed d names = (names ≢ []) × AllMean IsExcept (option_map list_of (as_array d)) names

-- the names of the array that a key holds, none where it isn't there
abbrev pub HoldsNames : Option Data → List Name → Type 0
HoldsNames None names = names ≡ []
HoldsNames (Some d) names = IsListed d names

-- the table has this number of rounds, 1 to 4; one where the key isn't there
pub record IsRounds (d : Data) (rounds : ℕ) : Type 0 where
  pub number : HasNumber d (codes "rounds") 64 rounds
  pub least : 1 ≤ rounds
  pub most : rounds ≤ 4

abbrev pub HasRounds : Data → ℕ → Type 0
HasRounds d rounds = IsRounds d rounds ⊎ IsDefault d (codes "rounds") 1 rounds

-- the table delivers all letters that wait so
pub record IsAll (d : Data) (all : Sweep) : Type 0 where
  pub kind : HasText d (codes "kind") (codes "deliver_all")
  pub rounds : HasRounds d all.rounds
  pub except : HoldsNames (get (codes "except") d) all.except

-- the table means the entry
abbrev pub MeansEntry : Data → Entry → Type 0
MeansEntry d (One step) = MeansStep d step
MeansEntry d (All all) = IsAll d all
