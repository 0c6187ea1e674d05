-- What an output holds that nothing was done to.
use Rattle.std.proofs.Common.{ℕ, List, Option}
use Rattle.std.specs.Io.KnownBytes.{Keeps}
use Rattle.std.proofs.KnownBytes.{Keeps-refl}

pub kept_same : (held : Option (List ℕ)) → Keeps held held
kept_same held = Keeps-refl held
