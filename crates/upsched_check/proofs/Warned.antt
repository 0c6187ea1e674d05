-- What is printed of a text's table, and of the commands of a good plan behind it.
use Rattle.std.proofs.Common.{◌≡◌, ℕ, Bool, true, false, if◌then◌else◌, List, ◌++◌, Option, None, Some, is_some, refl}
use Rattle.std.proofs.Common.{◌∙◌}
use Rattle.std.specs.Io.KnownBytes.{Appends}
use Rattle.std.proofs.KnownBytes.{Appends-trans}
use Rattle.toml.specs.Data.{Members, table}
use Rattle.upsched_check.specs.declared.form.Form.{Form}
use Rattle.upsched_check.specs.Reports.{form_of, is_good, good_as, table_lines, Warns, TellsOf}

some_where : (b : Bool) (form : Form) → is_some (if b then Some form else None) ≡ b
some_where true form = refl
some_where false form = refl

-- the lines of a table, and those behind them, are what is told of its text
pub told_of : (path text : List ℕ) (said good : Option Form) (ms : Members) (parsed : Option Members) (is : Bool) (old mid new : Option (List ℕ)) → parsed ≡ Some ms → good ≡ good_as said (table ms)
    → is ≡ is_some good → Appends old mid (table_lines path said (table ms)) → (warned : List ℕ) × Warns path text good warned × Appends mid new warned
    → (printed : List ℕ) × TellsOf path said text parsed is printed × Appends old new printed
told_of path text said good ms parsed is old mid new parses goods whether lines (warned, warns, behind) =
    let same : is ≡ is_good said (table ms) = rw goods at whether ∙ some_where (is_good said (table ms)) (form_of said (table ms)) in (
      table_lines path said (table ms) ++ warned,
      rw (parses) (warned, rw goods at warns, refl, same),
      Appends-trans old mid new _ _ lines behind,
    )
