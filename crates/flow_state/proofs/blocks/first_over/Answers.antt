use Rattle.std.proofs.Common.{get_or, sym, arith}
use Rattle.std.proofs.lemmas.Option.{slice_get-get_or}
use Rattle.flow_state.proofs.Bounds.{none_more, bound_from, over_found, over_nowhere}
use Rattle.flow_state.proofs.blocks.first_over.Goals as goal
use Rattle.flow_state.proofs.blocks.first_over.Goals.{then-first_ends-block+in_default, else-first_ends-block}

pub returns-in-Some : goal.returns-in-Some
returns-in-Some c = sym (over_found c.args.latest.now c.loop-block.block c.args.start c.in-Some.lease c.loop-block.invariant c.in-Some.ensures.some)

pub loop-block-preserved : goal.loop-block-preserved
loop-block-preserved c =
    none_more c.args.latest.now c.loop-block.block c.args.start c.loop-block.invariant
    (elim c.if-first_ends-block.branch [
      | then-first_ends-block+in_default w ↦ w.in_default.ensures.none
      | else-first_ends-block w ↦
          let later = w.if-first_ends-block.false in
          bound_from c.args.latest.now c.loop-block.block c.args.start (get_or c.args.first_ends.now c.loop-block.block 0) (omega (arith, later))
          (c.requires.bounds c.loop-block.block _ (slice_get-get_or c.args.first_ends.now c.loop-block.block 0 (omega (arith, c.loop-block-test.true))))
    ])

pub returns : goal.returns
returns c = sym (over_nowhere c.args.latest.now c.loop-block.block c.args.start (omega (arith, c.requires.enough, c.loop-block-test.false)) c.loop-block.invariant)
