-- What a key holds, from what its value is.
use Rattle.std.proofs.Common.{◌≡◌, Bool, true, false, List, Option, Some, None, refl}
use Rattle.std.specs.List.{list_all}
use Rattle.toml.specs.Data.{Data, as_array}
use Rattle.toml.specs.View.{items_of}
use Rattle.script_text.specs.Items.{held_items, is_table, only_tables}
use Rattle.script_text.proofs.Callers.{list_of-items_of}

pub of_array : (found : Option Data) (d : Data) (ds : List Data) → Some d ≡ found → Some (items_of ds) ≡ as_array d → Some ds ≡ held_items found
of_array found d ds is array = rw (← is, ← array, list_of-items_of ds) refl

pub of_tables : (items : Option (List Data)) (ds : List Data) {b all : Bool} → Some ds ≡ items → list_all is_table ds ≡ all → b ≡ all → b ≡ true → Some ds ≡ only_tables items
of_tables items ds is test same are = rw (← is, test, ← same, are) refl

pub of_other_items : (items : Option (List Data)) (ds : List Data) {b all : Bool} → Some ds ≡ items → list_all is_table ds ≡ all → b ≡ all → b ≡ false → None ≡ only_tables items
of_other_items items ds is test same not_all = rw (← is, test, ← same, not_all) refl
