use Rattle.std.proofs.Common.{◌≡◌, ◌++◌, take, drop, map}
use Rattle.modem.specs.Spans.{forgotten}
use Rattle.modem.proofs.span.forget_in.Given as goal

abbrev pub invariant-loop-span : goal.invariant-loop-span
invariant-loop-span l = l.spans ≡ map forgotten (take l.span-index l.initial.spans) ++ drop l.span-index l.initial.spans
