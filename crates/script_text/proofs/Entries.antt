-- What an event of a script excepts.
use Rattle.std.proofs.Common.{◌≡◌, ◌≢◌, List, [], ◌∷◌, Option, Some, refl, sym, ap, ◌∙◌, subst, option_map}
use Rattle.std.specs.List.{AllZip}
use Rattle.toml.specs.Data.{Data, as_array}
use Rattle.toml.specs.View.{items_of}
use Rattle.script_steps.specs.declared.name.Name.{Name}
use Rattle.script_text.specs.EntryTable.{IsExcept, IsListed}
use Rattle.script_text.specs.Items.{AllMean, list_of}
use Rattle.script_text.proofs.Callers.{list_of-items_of}

-- the items of an array
there : (d : Data) (ds : List Data) → Some (items_of ds) ≡ as_array d → option_map list_of (as_array d) ≡ Some ds
there d ds array = ap (option_map list_of) (sym array) ∙ ap Some (list_of-items_of ds)

some_of_some : (ds : List Data) (names : List Name) → ds ≢ [] → AllZip IsExcept ds names → names ≢ []
some_of_some [] names some all = absurd (some refl)
some_of_some (d ∷ ds) [] some all = absurd all
some_of_some (d ∷ ds) (name ∷ names) some all = λ is. cc

pub listed : (d : Data) (ds : List Data) (names : List Name) → Some (items_of ds) ≡ as_array d → ds ≢ [] → AllZip IsExcept ds names → IsListed d names
listed d ds names array some all = (some_of_some ds names some all, subst (λ (o : Option (List Data)). AllMean IsExcept o names) (sym (there d ds array)) all)

pub not_listed : (d : Data) (ds : List Data) → Some (items_of ds) ≡ as_array d → ((names : List Name) → AllZip IsExcept ds names → ⊥) → (names : List Name) → IsListed d names → ⊥
not_listed d ds array none names (some, all) = none names (subst (λ (o : Option (List Data)). AllMean IsExcept o names) (there d ds array) all)
