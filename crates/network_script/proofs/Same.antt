-- Two written worlds are the same where their parts are.
use Rattle.std.proofs.Common.{◌≡◌}
use Rattle.network_script.specs.World.{Written}

pub same_world : (a b : Written) → a.nodes ≡ b.nodes → a.letters ≡ b.letters → a.outputs ≡ b.outputs → a.modems ≡ b.modems → a.transmissions ≡ b.transmissions → a.history ≡ b.history → a ≡ b
same_world a b nodes letters outputs modems transmissions history =
    λ i. record { nodes = nodes i; letters = letters i; outputs = outputs i; modems = modems i; transmissions = transmissions i; history = history i }
