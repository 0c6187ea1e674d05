use Rattle.upsched_c.specs.Codec.{FitBefore}
use Rattle.upsched_c.proofs.codec.first_unfit.Given as goal

abbrev pub invariant-loop-i : goal.invariant-loop-i
invariant-loop-i l = FitBefore l.elements l.i
