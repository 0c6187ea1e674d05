use Rattle.std.proofs.Common.{◌≡◌, All, vec_len}
use Rattle.upsched_live.proofs.cluster.carriers_of.Given as goal

abbrev pub invariant-loop-number : goal.invariant-loop-number
invariant-loop-number l = (vec_len l.carriers ≡ l.number) × All (λ c. c.given ≡ l.turns) l.carriers.items × All (λ c. c.turns ≡ l.turns) l.carriers.items
