-- Deliveries of all letters that wait.
use Rattle.std.specs.Prelude.{ℕ, List}
use Rattle.script_steps.specs.declared.name.Name.{Name}

-- so many rounds of them, but for letters that have all that one of these names
pub record Sweep : Type 0 where
  pub except : List Name
  pub rounds : ℕ
