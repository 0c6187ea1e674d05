use Rattle.std.proofs.Common.{sym, arith}
use Rattle.modem.specs.declared.kept.KeptInterval.{KeptInterval}
use Rattle.std.proofs.lemmas.Option.{IfSome_then}
use Rattle.modem.proofs.Order.{first_from}
use Rattle.modem.proofs.NextEdges.{late_starts, no_starts}
use Rattle.modem.proofs.kept.next_start.Goals as goal

pub returns-then-begun-kept-clause-after : goal.returns-then-begun-kept-clause-after
returns-then-begun-kept-clause-after c =
    let one : KeptInterval = c.index-kept-begun.result in
    let behind = first_from c.args.kept.now _ c.args.begun one c.requires.begun c.if-begun-kept.true (sym c.index-kept-begun.is) in
    IfSome_then c.start_in.result c.start_in.ensures.some (λ n (same, is). omega (arith, behind, same, is))

pub returns-then-begun-kept-clause-first : goal.returns-then-begun-kept-clause-first
returns-then-begun-kept-clause-first c = λ x limit before.
    late_starts c.args.kept.now c.args.ch c.args.«at» x c.args.begun c.index-kept-begun.result c.requires.kept.ordered c.requires.begun c.if-begun-kept.true (sym c.index-kept-begun.is) c.start_in.ensures.range limit (c.start_in.ensures.first x before)

pub returns-else-begun-kept-clause-first : goal.returns-else-begun-kept-clause-first
returns-else-begun-kept-clause-first c = λ x limit before.
    no_starts c.args.kept.now c.args.ch c.args.«at» x c.args.begun c.requires.begun c.if-begun-kept.false
