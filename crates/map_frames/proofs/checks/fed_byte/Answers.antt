use Rattle.std.proofs.Common.{arith}
use Rattle.map_frames.proofs.Bits.{fed_next, fed_end}
use Rattle.map_frames.proofs.checks.fed_byte.Goals as goal

pub loop-i-preserved : goal.loop-i-preserved
loop-i-preserved c = λ n small start.
    let before = c.loop-i.invariant n small start in (
      c.fed_one-left.ensures.fits n small before.0,
      fed_next _ _ _ _ c.loop-i._i c.loop-i.rest (omega arith) (rw (← c.is_odd.ensures) (c.fed_one-left.ensures.bits n small before.0)) before.1,
    )

pub returns : goal.returns
returns c = record {
  fits = λ n small start. (c.loop-i.invariant n small start).0;
  bits = λ n small start. fed_end _ _ _ c.loop-i._i c.loop-i.rest (omega arith) (c.loop-i.invariant n small start).1;
}
