use Rattle.std.proofs.Common.{string_bytes}
use Rattle.run_picture.specs.Heads.{IsRendered}
use Rattle.run_picture.proofs.legend.add_items.Given as goal

abbrev pub invariant-loop-item : goal.invariant-loop-item
invariant-loop-item l = IsRendered (string_bytes l.out)
