use Rattle.std.proofs.Common.{◌≡◌, drop}
use Rattle.grant_machine_parts.specs.Gaps.{gap_in}
use Rattle.grant_machine_parts.proofs.gaps.gap_in.Given as goal

-- none so far is wide enough
abbrev pub invariant-loop-gap : goal.invariant-loop-gap
invariant-loop-gap l = gap_in l.gaps l.n l.first l.behind ≡ gap_in (drop l.gap-index l.gaps) l.n l.first l.behind
