-- The items of the array under a key.
use Rattle.std.specs.Prelude.{ℕ, List, [], Option, Some, None}
use Rattle.toml.specs.Data.{Data, Items, get, as_array}
use Rattle.script_text.specs.Items.{list_of}

-- the items of an array, none where there is none
abbrev pub listed : Option Items → List Data
listed None = []
listed (Some ds) = list_of ds

abbrev pub items_in : Option Data → List Data
items_in None = []
items_in (Some d) = listed (as_array d)

-- the items of the array under a key, none where there is no array
abbrev pub items_at : Data → List ℕ → List Data
items_at d key = items_in (get key d)
