use Rattle.std.proofs.Common.{◌≡◌, false}
use Rattle.std.specs.List.{AllWithin}
use Rattle.map_picture.specs.Wedges.{meets}
use Rattle.map_picture.proofs.wedges.collides.Given as goal

-- none so far
abbrev pub invariant-loop-k : goal.invariant-loop-k
invariant-loop-k l = AllWithin (λ u. meets l.t u ≡ false) l.sent l.first l.k
