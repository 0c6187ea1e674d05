use Rattle.std.proofs.Common.{sym, ◌∙◌, arith}
use Rattle.std.proofs.lemmas.Bool.{leb-false}
use Rattle.modem.proofs.Order.{AreBefore-at}
use Rattle.modem.proofs.kept.count_begun.Goals as goal

pub returns-then-not-begins_by-clause-begun : goal.returns-then-not-begins_by-clause-begun
returns-then-not-begins_by-clause-begun c =
    let behind = leb-false _ _ (sym c.begins_by.ensures ∙ c.if-not-begins_by.true) in
    AreBefore-at c.args.kept.now _ c.loop-i.i c.index-kept-i.result c.requires.kept.ordered c.loop-i.invariant.1 c.loop-i-test.true (sym c.index-kept-i.is) (omega (arith, behind))
