use Rattle.std.proofs.Common.{get_or, sym, ◌∙◌}
use Rattle.modem.specs.declared.span.Span.{Span}
use Rattle.modem.proofs.Spans.{stay_at}
use Rattle.modem.proofs.span.all_stay.Goals as goal

pub returns-then-is_at : goal.returns-then-is_at
returns-then-is_at c = λ _ leases wants all.
    let none : Span = record { channel = 0; from = 0; until = 0 } in
    let i = c.loop-span.span-index in
    stay_at leases wants (get_or c.args.spans.now i none) c.args.ch c.args.«at» (sym c.is_at.ensures ∙ c.if-is_at.true) (all i none c.loop-span-test.true)
