-- Arrays of TOML, item by item.
use Rattle.std.specs.Prelude.{◌≡◌, ℕ, ◌<◌, Bool, List, [], ◌∷◌, Option, Some, None, is_some, option_map, if◌then◌else◌}
use Rattle.std.specs.Prelude.{slice_get}
use Rattle.std.specs.List.{AllZip, list_all}
use Rattle.toml.specs.Data.{Data, Items, no_items, item, Members, get_member, as_array, as_table}

-- the items of an array as a list
abbrev pub list_of : Items → List Data
list_of no_items = []
list_of (item d ds) = d ∷ list_of ds

-- the items of the array under a key, none without the key; nothing where the key holds no array
abbrev pub held_items : Option Data → Option (List Data)
held_items None = Some []
held_items (Some d) = option_map list_of (as_array d)

abbrev pub items_at : Members → List ℕ → Option (List Data)
items_at ms key = held_items (get_member key ms)

abbrev pub is_table : Data → Bool
is_table d = is_some (as_table d)

-- likewise, and nothing either where an item is no table
abbrev pub only_tables : Option (List Data) → Option (List Data)
only_tables None = None
only_tables (Some ds) = if list_all is_table ds then Some ds else None

abbrev pub tables_at : Members → List ℕ → Option (List Data)
tables_at ms key = only_tables (items_at ms key)

-- there are items, and they mean these, one each
abbrev pub AllMean : {X : Type 0} → (Data → X → Type 0) → Option (List Data) → List X → Type 0
AllMean Means None xs = ⊥
AllMean Means (Some ds) xs = AllZip Means ds xs

-- the item at this index means nothing, and each before it means something
pub record IsFirstBad {X : Type 0} (Means : Data → X → Type 0) (ds : List Data) (index : ℕ) : Type 0 where
  pub bad : Data
  pub here : slice_get ds index ≡ Some bad
  pub means_nothing : (x : X) → ¬ Means bad x
  pub sound_before : (k : ℕ) (d : Data) → k < index → slice_get ds k ≡ Some d → (x : X) × Means d x

-- the index that a fault tells: of the first item that means nothing, or 0 where there are no items to look at
abbrev pub IsBadIndex : {X : Type 0} → (Data → X → Type 0) → Option (List Data) → ℕ → Type 0
IsBadIndex Means None index = index ≡ 0
IsBadIndex Means (Some ds) index = IsFirstBad Means ds index
