use Rattle.std.proofs.Common.{◌≡◌, ◌++◌, take, drop}
use Rattle.modem.specs.Spans.{with_span}
use Rattle.modem.proofs.span.set_in.Given as goal

abbrev pub invariant-loop-span : goal.invariant-loop-span
invariant-loop-span l = l.spans ≡ with_span l.row (take l.span-index l.initial.spans) ++ drop l.span-index l.initial.spans
