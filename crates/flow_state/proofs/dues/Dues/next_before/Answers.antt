use Rattle.std.proofs.Common.{◌≡◌, ℕ, ◌+◌, ◌*◌, List, max, subst, arith}
use Rattle.flow_state.specs.StoredDues.{NoneBefore}
use Rattle.flow_state.proofs.DueBounds.{late_block, none_until, read_at}
use Rattle.flow_state.proofs.dues.Dues.next_before.Goals as goal
use Rattle.flow_state.proofs.dues.Dues.next_before.Goals.{then-index-end+in_default, else-index-end}

-- in the times themselves, from the greater of two on
told : (times read : List ℕ) (first most to end : ℕ) → read ≡ times → first ≡ most → NoneBefore read first to end → NoneBefore times most to end
told times read first most to end same is none = subst (λ (ns : List ℕ). NoneBefore ns most to end) same (subst (λ n. NoneBefore read n to end) is none)

pub returns-in-Some-clause-some : goal.returns-in-Some-clause-some
returns-in-Some-clause-some c =
    let some = c.in-Some.ensures.some in
    let first = c.max-first.ensures in
    let few = c.min-block-end.ensures in (
      omega (arith, some.0),
      omega (arith, some.1),
      none_until c.args.self.now c.args.from c.loop-block.block c.in-Some.sid c.args.end c.loop-block.invariant
          (told c.args.self.now.times.items c.deref.result.now c.max-first.result (max c.args.from (c.loop-block.block * 64)) c.in-Some.sid c.args.end c.deref.ensures.value first some.2),
    )

pub loop-block-preserved : goal.loop-block-preserved
loop-block-preserved c = elim c.if-index-end.branch [
  | then-index-end+in_default w ↦ λ sid due ge lt is.
      none_until c.args.self.now c.args.from c.loop-block.block (c.loop-block.block * 64 + 64) c.args.end c.loop-block.invariant
      (told c.args.self.now.times.items w.deref.result.now w.max-first.result (max c.args.from (c.loop-block.block * 64)) (c.loop-block.block * 64 + 64) c.args.end w.deref.ensures.value w.max-first.ensures w.in_default.ensures.none)
      sid due ge (omega arith) is
  | else-index-end w ↦
      let few = c.min-block-end.ensures in
      let len = c.len.ensures in
      let late = w.if-index-end.false in
      let read = read_at c.args.self.now.least.items c.loop-block.block c.index.result.now (omega (arith, c.loop-block-test.true, few, len)) c.index.ensures in
      late_block c.args.self.now c.args.from c.loop-block.block c.args.end c.loop-block.invariant (omega (arith, read, late))
]

pub returns-clause-none : goal.returns-clause-none
returns-clause-none c = λ sid due ge lt is.
    let few = c.min-block-end.ensures in
    let len = c.len.ensures in
    let over = c.loop-block-test.false in
    let there = is.1.0 in
    c.loop-block.invariant sid due ge (omega (arith, few, len, over, there, lt)) is
