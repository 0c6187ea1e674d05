use Rattle.std.proofs.Common.{refl, arith}
use Rattle.map_frames.specs.Polynomials.{fed}
use Rattle.map_frames.proofs.Bits.{fed_more, fed_whole}
use Rattle.map_frames.proofs.checks.fed.Goals as goal

pub loop-byte-init : goal.loop-byte-init
unfolding fed
loop-byte-init c = λ n small start. (start, refl)

pub loop-byte-preserved : goal.loop-byte-preserved
loop-byte-preserved c = λ n small start.
    let before = c.loop-byte.invariant n small start in (
      c.fed_byte-left.ensures.fits n small before.0,
      fed_more _ _ _ _ c.args.bytes.now c.loop-byte.byte-index _ (omega arith) refl before.1 (c.fed_byte-left.ensures.bits n small before.0),
    )

pub returns : goal.returns
returns c = record {
  fits = λ n small start. (c.loop-byte.invariant n small start).0;
  bits = λ n small start. fed_whole _ _ _ c.args.bytes.now c.loop-byte.byte-index (omega arith) (c.loop-byte.invariant n small start).1;
}
