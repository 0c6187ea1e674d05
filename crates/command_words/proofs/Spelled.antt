-- What bytes spell is what they are read as.
use Rattle.std.proofs.Common.{◌≡◌, ◌∙◌, ap, refl, sym, List, ℕ, Option, Some, None}
use Rattle.std.specs.Prelude.{MatchOption}
use Rattle.grant_machine.specs.declared.command.Command.{Command}
use Rattle.grant_machine.specs.Fits.{FitsCommand}
use Rattle.command_log.specs.Reading.{command_in}
use Rattle.command_log.specs.Spelling.{Spells, SpellsNone, spelling}

pub spelled_one : (bytes : List ℕ) (c : Command)
    → ((c : Command) → FitsCommand c → command_in (spelling c) ≡ Some c) → Spells bytes c → Some c ≡ command_in bytes
spelled_one bytes c law (fits, is) = sym (ap command_in is ∙ law c fits)

pub spelled_none : (bytes : List ℕ) (read : Option Command) → MatchOption read (SpellsNone bytes) (Spells bytes) → SpellsNone bytes → None ≡ read
spelled_none bytes None matched none = refl
spelled_none bytes (Some c) matched none = absurd (none c matched)
